-- What a packet's header says of the other calls on the packet. Assumes nothing.
use Prim.Native.Nat.{ℕ, ◌/◌, ◌%◌, ◌^◌, ◌≤◌}
use Prim.Native.String.{String}
use mathlib.Core.Path.{◌≡◌, refl, sym, ap, ◌∙◌}
use mathlib.Core.Bool.{true, not}
use mathlib.Core.List.{List}
use native.Mathlib.Omega.{arith}
use borrow.Author.Tests.{eqb-true, eq-eqb, not-false}
use lib.ListN.{length}
use Rattle.fields.specs.Choice.{◌is◌, ◌is_not◌}
use Rattle.fields.specs.SyntaxTable.{field, size, behind, width, value_of}
use Rattle.fields.specs.Word.{word_of}
use Rattle.fields.proofs.Choices.{test_holds, test_fails, second_chosen, either_way}
use Rattle.fields.proofs.SyntaxTables.{field_of_word}
use Rattle.answers.specs.Says.{Says, given, refused}
use Rattle.answers.specs.Refusals.{number_of}
use Rattle.answers.specs.declared.Refusal.{Refusal}
use Rattle.answers.proofs.Saying.{same_values, given_is_not_refused}
use Rattle.packet.specs.Syntax.{transport_packet}
use Rattle.packet.specs.Header.{size as packet_length, sync_byte, of_a_packet, no_header, fields_of, header_of}
use Rattle.packet.specs.declared.Header.{Header}

-- every field of the header, from the word of its four bytes
pub header_field : (packet : List ℕ) (word : ℕ) → 4 ≤ length packet → word ≡ word_of packet 0 4
    → (name : String) → value_of transport_packet name packet ≡ word / 2 ^ behind transport_packet name % 2 ^ width transport_packet name
unfolding size
header_field packet word l e name = field_of_word transport_packet packet 0 4 word (omega arith) refl e name

-- what a header that is given says of its bytes: they are a packet, and its fields are theirs
pub record OfAPacket (packet : List ℕ) (header : Header) : Type 0 where
  pub sized : length packet ≡ packet_length
  pub synced : (field transport_packet "sync_byte" packet is sync_byte) ≡ true
  pub fields : header ≡ fields_of packet

pub header_given : (packet : List ℕ) (header : Header) → given header ≡ header_of packet → OfAPacket packet header
unfolding header_of of_a_packet
header_given packet header e =
    let size = second_chosen _ _ _ _ (sym e) (λ f. given_is_not_refused Refusal.PacketSize (sym f)) in
    let sync = second_chosen _ _ _ _ size.1 (λ f. given_is_not_refused Refusal.NoSyncByte (sym f)) in
    record {
      sized = eqb-true _ _ (not-false _ size.0);
      synced = not-false _ sync.0;
      fields = sym (same_values sync.1);
    }

module _ {Values : Type 0} (packet : List ℕ) (none : Values) (asked : Says Values) where
  -- then every call on the packet is told of a packet
  pub told_of_a_packet : (header : Header) → given header ≡ header_of packet → of_a_packet packet none asked ≡ asked
  unfolding of_a_packet
  told_of_a_packet header e =
      let given = header_given packet header e in
      test_fails _ _ _ (ap not (eq-eqb _ _ given.sized)) ∙ test_fails _ _ _ (ap not given.synced)

  -- a header that is refused: every call on the packet is refused with its number
  pub refused_as_its_header : (refusal : Refusal) → refused (number_of refusal) no_header ≡ header_of packet
      → of_a_packet packet none asked ≡ refused (number_of refusal) none
  unfolding header_of of_a_packet
  refused_as_its_header refusal e =
      either_way (length packet is_not packet_length) _ _ _ (sym e)
      (λ unsized f. test_holds _ _ _ unsized ∙ numbered f)
      (λ sized f. either_way (field transport_packet "sync_byte" packet is_not sync_byte) _ _ _ f
      (λ unsynced g. test_fails _ _ _ sized ∙ test_holds _ _ _ unsynced ∙ numbered g)
      (λ synced g. absurd (given_is_not_refused refusal g)))
    where
      numbered : {m n : ℕ} → refused m no_header ≡ refused n no_header → refused m none ≡ refused n none
      numbered e = ap (λ (n : ℕ). refused n none) (ap (λ (s : Says Header). s.number) e)
