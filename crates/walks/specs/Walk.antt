-- Walks over a body, whatever its entries are: document 01, "Walks take a body and a position", and the loops of the standard.
use Rattle.std.specs.Prelude.{ℕ, zero, suc, ◌+◌, ◌-◌, Bool, not, List, [], ◌∷◌, length, drop}
use Rattle.fields.specs.Choice.{when◌then◌else◌, ◌is◌, ◌is_above◌}
use Rattle.answers.specs.Numbers.{walk_at_end, position_above_length}
use Rattle.answers.specs.Says.{Says, given, refused}

-- a kind of entry: whether some bytes begin with a whole one, and the number of the answer that says why where they do not; how many of them
-- it has, what it says where the first of them stands at a position of the body, and what stands for it in a refused answer
pub record Kind (Entry : Type 0) : Type 0 where
  pub fits : List ℕ → Bool
  pub why_not : List ℕ → ℕ
  pub size : List ℕ → ℕ
  pub entry : ℕ → List ℕ → Entry
  pub none : Entry

-- ---- a call: "a position in, an entry and the next position out"

-- and what is told where no entry fits: the offset in the body at which one would stand
pub record Found (Entry : Type 0) : Type 0 where
  pub entry : Entry
  pub next : ℕ
  pub offset : ℕ

abbrev pub found : {Entry : Type 0} → Entry → ℕ → Says (Found Entry)
found entry next = given (record { entry = entry; next = next; offset = 0 })

-- "All other numbers in a refused answer are 0"
abbrev pub nothing : {Entry : Type 0} → Kind Entry → Found Entry
nothing kind = record { entry = kind.none; next = 0; offset = 0 }

-- "Each now tells the body offset of the entry": 24, 27 and 28
abbrev pub none_fits_at : {Entry : Type 0} → Kind Entry → ℕ → ℕ → Says (Found Entry)
none_fits_at kind offset why = refused why (record { entry = kind.none; next = 0; offset = offset })

-- "26 if above its length, then 23 if nothing is left": how many bytes are left
unfoldable pub left_of : List ℕ → ℕ → Says ℕ
left_of body position =
    when position is_above length body then refused position_above_length 0
    else when position is length body then refused walk_at_end 0
    else given (length body - position)

-- the same two tests, and then why no entry fits here, or the entry that stands there
unfoldable pub found_at : {Entry : Type 0} → Kind Entry → List ℕ → ℕ → Says (Found Entry)
found_at kind body position =
    when position is_above length body then refused position_above_length (nothing kind)
    else when position is length body then refused walk_at_end (nothing kind)
    else when not (kind.fits (drop position body)) then none_fits_at kind position (kind.why_not (drop position body))
    else found (kind.entry position (drop position body)) (position + kind.size (drop position body))

-- ---- a loop of the standard, `for (i = 0; i < N; i++) { .. }`

-- its entries: so long as one fits, that one, and then those in the bytes behind it; in so many turns at most
unfoldable pub entries_in : {Entry : Type 0} → Kind Entry → ℕ → ℕ → List ℕ → List Entry
entries_in kind zero position bytes = []
entries_in kind (suc turns) position bytes =
    when kind.fits bytes then
    kind.entry position bytes ∷ entries_in kind turns (position + kind.size bytes) (drop (kind.size bytes) bytes)
    else []

-- the bytes behind the last of them: none where the loop comes out even
unfoldable pub left_behind : {Entry : Type 0} → Kind Entry → ℕ → List ℕ → List ℕ
left_behind kind zero bytes = bytes
left_behind kind (suc turns) bytes =
    when kind.fits bytes then left_behind kind turns (drop (kind.size bytes) bytes)
    else bytes

-- where these begin, where the loop begins at a position: behind the last entry
unfoldable pub left_from : {Entry : Type 0} → Kind Entry → ℕ → ℕ → List ℕ → ℕ
left_from kind zero position bytes = position
left_from kind (suc turns) position bytes =
    when kind.fits bytes then left_from kind turns (position + kind.size bytes) (drop (kind.size bytes) bytes)
    else position

-- ---- a host's walk

-- the entries that a host got, the number of the answer that ended its walk (0: none did) and the offset that it told, and how many calls it
-- made
pub record Walked (Entry : Type 0) : Type 0 where
  pub entries : List Entry
  pub ended : ℕ
  pub offset : ℕ
  pub calls : ℕ

-- an entry got before the rest of a walk, and a walk that is refused at once
abbrev pub got : {Entry : Type 0} → Entry → Walked Entry → Walked Entry
got entry later =
    record { entries = entry ∷ later.entries; ended = later.ended; offset = later.offset; calls = suc later.calls }

abbrev pub ended_by : {Entry : Type 0} → ℕ → ℕ → Walked Entry
ended_by number offset = record { entries = []; ended = number; offset = offset; calls = 1 }

-- a host that asks at a position, hands each next position back, and stops when it is refused, or after so many calls
unfoldable pub walked : {Entry : Type 0} → (ℕ → Says (Found Entry)) → ℕ → ℕ → Walked Entry
walked ask zero position = record { entries = []; ended = 0; offset = 0; calls = 0 }
walked ask (suc calls) position =
    let answer = ask position in
    when answer.number is 0 then got answer.values.entry (walked ask calls answer.values.next)
    else ended_by answer.number answer.values.offset

-- a host that got a loop's entries in order and then 23, or, where the loop leaves bytes behind, why no entry fits into them and where they
-- begin; one call for each entry, and the last
abbrev pub exactly : {Entry : Type 0} → Kind Entry → List Entry → List ℕ → ℕ → Walked Entry
exactly kind entries left from =
    record {
      entries = entries;
      ended = when length left is 0 then walk_at_end else kind.why_not left;
      offset = when length left is 0 then 0 else from;
      calls = suc (length entries);
    }
