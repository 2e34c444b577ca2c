-- Laws of text put on a page. Assumes nothing.
use Prim.Native.Nat.{ℕ, ◌+◌, ◌<◌, ◌≤◌}
use mathlib.Core.Path.{◌≡◌, refl, sym, ap, ap₂, ◌∙◌, subst}
use mathlib.Core.List.{List, [], ◌∷◌, ◌++◌, append_assoc, append-nil}
use mathlib.Core.Bool.{Bool, true, false}
use native.Mathlib.Numerals.{add-one}
use native.Mathlib.Omega.{arith}
use lib.ListN.{length, set, take, get_or, length-set, replicate, replicate-append-replicate}
use lib.Seq.{take-suc, take_all, take-suc-set}
use borrow.Author.Tests.{lt-ltb, le-ltb, ltb-true, ltb-false}
use lib.Dec.{ltb}
use Rattle.fields.specs.Choice.{when◌then◌else◌}
use Rattle.fields.proofs.Choices.{test_holds, test_fails}
use Rattle.text.specs.Page.{Page, paged, text_on, Sound, with_byte, with_text, written_for, written}

-- text and then text is both as one
pub text_append : (page : Page) (a b : List ℕ) → with_text page (a ++ b) ≡ with_text (with_text page a) b
unfolding with_text
text_append page [] b = refl
text_append page (byte ∷ a) b = text_append (with_byte page byte) a b

-- a byte more of a text is a byte more on the page
pub one_more : (page : Page) (text : List ℕ) (i : ℕ) → i < length text
    → with_byte (with_text page (take i text)) (get_or text i 0) ≡ with_text page (take (i + 1) text)
unfolding with_text
one_more page text i h =
    let e : take (i + 1) text ≡ take i text ++ get_or text i 0 ∷ [] = rw add-one (take-suc text i 0 h) in
    sym (ap (with_text page) e ∙ text_append page (take i text) (get_or text i 0 ∷ []))

pub one_more_repeated : (page : Page) (byte i : ℕ)
    → with_byte (with_text page (replicate i byte)) byte ≡ with_text page (replicate (i + 1) byte)
unfolding with_text
one_more_repeated page byte i =
    sym (ap (with_text page) (sym (replicate-append-replicate i 1 byte)) ∙ text_append page (replicate i byte) (byte ∷ []))

-- a byte more, by what there is room for
pub byte_in_room : (page : Page) (byte : ℕ) → page.end < length page.bytes
    → with_byte page byte ≡ paged (page.end + 1) (set page.bytes page.end byte)
unfolding with_byte
byte_in_room page byte h = test_holds _ _ _ (lt-ltb _ _ h)

chosen_again : (b : Bool) (p q : Page) → (when b then p else q) ≡ (when b then p else when b then p else q)
unfolding when◌then◌else◌
chosen_again true p q = refl
chosen_again false p q = refl

pub byte_begins_anew : (page : Page) (byte : ℕ) → length page.bytes ≤ page.end
    → with_byte page byte ≡ with_byte (paged 0 page.bytes) byte
unfolding with_byte
byte_begins_anew page byte h = test_fails _ _ _ (le-ltb _ _ h) ∙ chosen_again (ltb 0 (length page.bytes)) _ _

pub byte_finds_no_room : (page : Page) (byte : ℕ) → length page.bytes ≤ 0 → with_byte page byte ≡ paged 0 page.bytes
unfolding with_byte
byte_finds_no_room page byte h = test_fails _ _ _ (le-ltb _ _ (omega arith)) ∙ test_fails _ _ _ (le-ltb _ _ h)

pub ruleset byte_put = (byte_in_room, byte_begins_anew, byte_finds_no_room)

-- ---- nothing is lost

module _ (page : Page) (byte : ℕ) (sound : Sound page) where
  Kept : Type 0
  Kept = Sound (with_byte page byte) × (written_for page ++ text_on (with_byte page byte) ≡ text_on page ++ byte ∷ [])

  kept : (after : Page) (out : List ℕ) → with_byte page byte ≡ after → written_for page ≡ out → Sound after
      → out ++ text_on after ≡ text_on page ++ byte ∷ [] → Kept
  unfolding Kept
  kept after out e w still_sound all = (
    subst Sound (sym e) still_sound,
    ap₂ (λ (o : List ℕ) (p : Page). o ++ text_on p) w e ∙ all,
  )

  by_room : (has_room : Bool) → ltb page.end (length page.bytes) ≡ has_room → Kept
  by_room true e =
      let h : page.end < length page.bytes = ltb-true _ _ e in
      kept (paged (page.end + 1) (set page.bytes page.end byte)) [] (byte_in_room page byte h) (test_holds _ _ _ e)
      (simp length-set (sound.0, omega arith)) (rw add-one (take-suc-set page.bytes page.end byte h))
  by_room false e =
      let h : length page.bytes ≤ page.end = ltb-false _ _ e in
      let full : take page.end page.bytes ≡ page.bytes = take_all page.end page.bytes h in
      kept (paged 1 (set page.bytes 0 byte)) page.bytes
      (byte_begins_anew page byte h ∙ byte_in_room (paged 0 page.bytes) byte sound.0) (test_fails _ _ _ e)
      (simp length-set (sound.0, omega (arith, sound.0)))
      (ap (λ (t : List ℕ). page.bytes ++ t) (take-suc-set page.bytes 0 byte sound.0) ∙ ap (λ (t : List ℕ). t ++ byte ∷ []) (sym full))

  byte_kept : Kept
  byte_kept = by_room (ltb page.end (length page.bytes)) refl

-- what is written on the way, and the text that the page has then, are the text that it had and the text that was put
pub nothing_lost : (page : Page) (text : List ℕ) → Sound page
    → written page text ++ text_on (with_text page text) ≡ text_on page ++ text
unfolding with_text written Kept
nothing_lost page [] sound = sym (append-nil (text_on page))
nothing_lost page (byte ∷ text) sound =
    let one = byte_kept page byte sound in
    append_assoc (written_for page) (written (with_byte page byte) text) (text_on (with_text (with_byte page byte) text))
    ∙ ap (λ (t : List ℕ). written_for page ++ t) (nothing_lost (with_byte page byte) text one.0)
    ∙ sym (append_assoc (written_for page) (text_on (with_byte page byte)) text)
    ∙ ap (λ (t : List ℕ). t ++ text) one.1 ∙ append_assoc (text_on page) (byte ∷ []) text
