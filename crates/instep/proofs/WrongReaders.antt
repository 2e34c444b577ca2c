-- What is said of delivered sections excludes a short delivery, and one without a start. Assumes nothing.
use Prim.Native.Nat.{ℕ, ◌+◌, ◌≤◌}
use mathlib.Core.Path.{◌≡◌, refl, sym, ◌∙◌, subst}
use mathlib.Core.Bool.{false, true≢false}
use mathlib.Core.List.{List, [], ◌∷◌, ◌++◌}
use native.Mathlib.Omega.{arith}
use lib.ListN.{length}
use Rattle.fields.specs.Choice.{when◌then◌else◌}
use Rattle.fields.specs.BitString.{low_bits, bit_string, number, number_at}
use Rattle.fields.specs.SyntaxTable.{offset, width, value_of}
use Rattle.packet.specs.Header.{of_a_packet}
use Rattle.packet.specs.Payload.{starting_at, payload_behind, payload_of}
use Rattle.psi.specs.Header.{section_length}
use Rattle.memory.specs.declared.Form.{Form}
use Rattle.instep.specs.Fed.{all_continuing, fed_from, NoneMayStart, may_start, ByTail}
use Rattle.instep.specs.WrongReaders.{of_three_bytes, ShortDelivery, DeliveryWithoutStart}

-- ---- a short delivery

three_bytes_fed : fed_from of_three_bytes [] ≡ 0x00 ∷ 0x30 ∷ 0xff ∷ []
unfolding
    when◌then◌else◌ low_bits bit_string number number_at offset width value_of
    of_a_packet starting_at payload_behind payload_of all_continuing fed_from
three_bytes_fed = refl

length_of_the_three : section_length (0x00 ∷ 0x30 ∷ 0xff ∷ []) ≡ 255
unfolding when◌then◌else◌ low_bits bit_string number number_at offset width value_of
length_of_the_three = refl

pub no_short_delivery : ShortDelivery → ⊥
no_short_delivery delivery =
    let enough : 3 + section_length (0x00 ∷ 0x30 ∷ 0xff ∷ []) ≤ 3 =
    subst (λ (fed : List ℕ). 3 + section_length fed ≤ length fed) three_bytes_fed delivery.is_first.enough in
    omega (arith, enough, length_of_the_three)

-- ---- a delivery without a start

no_start_among : (before : List (List ℕ)) (start : List ℕ) (later : List (List ℕ)) → NoneMayStart (before ++ start ∷ later)
    → may_start start ≡ false
unfolding NoneMayStart
no_start_among [] start later none = none.0
no_start_among (packet ∷ before) start later none = no_start_among before start later none.1

-- a tail step delivers nothing where no packet of the history may start a section
pub no_delivery_without_start : (form : Form) (history : List (List ℕ)) (packet section : List ℕ) → NoneMayStart history
    → ByTail form history packet section → ⊥
no_delivery_without_start form history packet section none delivery =
    let s = delivery.started in
    true≢false (sym s.starts ∙ no_start_among s.before s.start s.later (subst NoneMayStart s.lies none))

pub no_delivery_of_the_first_packet : DeliveryWithoutStart → ⊥
unfolding NoneMayStart
no_delivery_of_the_first_packet delivery = no_delivery_without_start _ _ _ _ tt delivery
