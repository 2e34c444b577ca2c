-- What C reads at the place that `jambpepper_section` gives is the delivered section. Assumes nothing.
use Prim.Native.Nat.{ℕ}
use mathlib.Core.Path.{◌≡◌, refl, sym, ap, ◌∙◌}
use mathlib.Core.Bool.{true, false, true≢false}
use mathlib.Core.List.{List, [], ◌∷◌}
use native.Mathlib.Omega.{arith}
use borrow.Author.Tests.{eqb-true}
use lib.ListN.{length, take, drop}
use Rattle.fields.specs.Choice.{when◌then◌else◌, ◌is◌}
use Rattle.fields.proofs.Choices.{test_holds, test_fails, of_either}
use Rattle.delivered.specs.declared.Holder.{Holder}
use Rattle.delivered.specs.Delivered.{part_of, part_held_by, section_of}
use Rattle.capi_delivered.specs.Delivered.{holder_of, place_from_c, nowhere_for_c, section_for_c, read_at}
use Rattle.capi_numbers.specs.declared.JambpepperPlace.{JambpepperPlace}

-- bytes that are not none
abbrev NotEmpty : List ℕ → Type 0
NotEmpty bytes = (length bytes is 0) ≡ false

none_of_no_length : (bytes : List ℕ) → (length bytes is 0) ≡ true → bytes ≡ []
none_of_no_length [] h = refl
none_of_no_length (byte ∷ bytes) h = absurd (omega (arith, eqb-true (length (byte ∷ bytes)) 0 h))

-- a part that is not empty lies within, and is those bytes
part_there : (bytes : List ℕ) (start len : ℕ) → NotEmpty (part_of bytes start len) → part_of bytes start len ≡ take len (drop start bytes)
unfolding part_of
part_there bytes start len =
    of_either There _ _ _ (λ beyond h. absurd (true≢false h))
    (λ within. of_either There _ _ _ (λ longer h. absurd (true≢false h)) (λ fits h. refl))
  where
    There : List ℕ → Type 0
    There part = NotEmpty part → part ≡ take len (drop start bytes)

module _ (packet buffer : List ℕ) (answer : ℕ) (place : JambpepperPlace) where
  -- the bytes that C takes for the holder's
  abbrev held : List ℕ
  held = when place.holder is 2 then buffer else packet

  held_there : NotEmpty (part_held_by (holder_of place.holder) packet buffer place.start place.length)
      → part_held_by (holder_of place.holder) packet buffer place.start place.length
      ≡ take place.length (drop place.start held)
  unfolding holder_of part_held_by
  held_there =
      of_either HeldThere (place.holder is 1) Holder.Packet _
      (λ is_packet h. part_there packet _ _ h ∙ ap there (sym (test_fails _ buffer packet (ap (λ (n : ℕ). n is 2) (eqb-true place.holder 1 is_packet)))))
      (λ not_packet. of_either HeldThere (place.holder is 2) Holder.Buffer Holder.Nowhere
      (λ is_buffer h. part_there buffer _ _ h ∙ ap there (sym (test_holds _ buffer packet is_buffer)))
      (λ not_buffer h. absurd (true≢false h)))
    where
      there : List ℕ → List ℕ
      there bytes = take place.length (drop place.start bytes)

      HeldThere : Holder → Type 0
      HeldThere holder = NotEmpty (part_held_by holder packet buffer place.start place.length)
          → part_held_by holder packet buffer place.start place.length ≡ there held

  section_there : NotEmpty (section_of packet buffer answer (place_from_c place))
      → section_of packet buffer answer (place_from_c place) ≡ read_at place packet buffer
  unfolding section_of read_at
  section_there =
      of_either (λ section. NotEmpty section → section ≡ take place.length (drop place.start held)) _ _ _
      (λ delivered. held_there) (λ other h. absurd (true≢false h))

  pub read_is_the_section : read_at (section_for_c packet buffer answer place) packet buffer
      ≡ section_of packet buffer answer (place_from_c place)
  unfolding section_for_c read_at
  read_is_the_section =
      of_either (λ (found : JambpepperPlace). read_at found packet buffer ≡ section_of packet buffer answer (place_from_c place))
      (length (section_of packet buffer answer (place_from_c place)) is 0) _ _
      (λ empty. nothing_read ∙ sym (none_of_no_length _ empty))
      (λ there. sym (section_there there))
    where
      nothing_read : read_at nowhere_for_c packet buffer ≡ []
      nothing_read = refl
