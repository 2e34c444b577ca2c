-- A page that text is put on.
use Rattle.std.specs.Prelude.{ℕ, ◌+◌, ◌<◌, ◌≤◌, List, [], ◌∷◌, ◌++◌, length, set, take}
use Rattle.fields.specs.Choice.{when◌then◌else◌, ◌is_below◌}
use Rattle.std.specs.declared.rt.Stdout.{Stdout}
use base.Fml.{GName}
use Rattle.text.specs.declared.Page as declared

-- how many bytes are text, from the front on, and all the bytes of the page
pub record Page : Type 0 where
  pub end : ℕ
  pub bytes : List ℕ

abbrev pub paged : ℕ → List ℕ → Page
paged end bytes = record { end = end; bytes = bytes }

-- what the program's page is
abbrev pub paged_of : declared.Page → Page
paged_of page = paged page.end page.bytes.now

-- the text that it has
abbrev pub text_on : Page → List ℕ
text_on page = take page.end page.bytes

-- it can take a byte, and its text lies within it
abbrev pub Sound : Page → Type 0
Sound page = (0 < length page.bytes) × (page.end ≤ length page.bytes)

-- a byte more: behind the text where there is room; a full page is written, and begun anew with it; a page of no bytes takes none
unfoldable pub with_byte : Page → ℕ → Page
with_byte page byte =
    when page.end is_below length page.bytes then paged (page.end + 1) (set page.bytes page.end byte)
    else when 0 is_below length page.bytes then paged 1 (set page.bytes 0 byte)
    else paged 0 page.bytes

-- text more, byte after byte
unfoldable pub with_text : Page → List ℕ → Page
with_text page [] = page
with_text page (byte ∷ text) = with_text (with_byte page byte) text

-- what is written on the way: each time a full page
abbrev pub written_for : Page → List ℕ
written_for page = when page.end is_below length page.bytes then [] else page.bytes

unfoldable pub written : Page → List ℕ → List ℕ
written page [] = []
written page (byte ∷ text) = written_for page ++ written (with_byte page byte) text

-- a page of a program: what it is, its output, and which bytes it is lent
pub record Lent : Type 0 where
  pub page : Page
  pub out : Stdout
  pub bytes : GName

abbrev pub lent : declared.Page → Lent
lent page = record { page = paged_of page; out = page.out; bytes = page.bytes.ghost_name }

-- text more on it; the output and the lent bytes are those that it had
abbrev pub with_text_put : Lent → List ℕ → Lent
with_text_put page text = record { page = with_text page.page text; out = page.out; bytes = page.bytes }
