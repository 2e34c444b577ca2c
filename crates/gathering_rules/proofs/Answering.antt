-- Which numbers the rules of gathering answer: 5 and 25 of nothing but the state and the buffer that the host handed back. Assumes nothing.
use Prim.Native.Nat.{ℕ}
use mathlib.Core.Path.{◌≡◌, refl, sym, ap, ◌∙◌, subst}
use mathlib.Core.Bool.{Bool, true, false, not}
use mathlib.Core.List.{List}
use borrow.Author.Tests.{eq-eqb, eqb-false}
use Rattle.fields.specs.Choice.{◌is◌}
use Rattle.fields.proofs.Choices.{test_fails, of_both}
use Rattle.answers.specs.Says.{Says}
use Rattle.packet.specs.Header.{of_a_packet}
use Rattle.packet.specs.Payload.{starting_at, payload_behind}
use Rattle.memory.specs.declared.Form.{Form}
use Rattle.memory.specs.declared.Memory.{Memory}
use Rattle.gathering_rules.specs.Checks.{buffer_length, checked, NotTheHosts}
use Rattle.gathering_rules.specs.Start.{start_refusal}
use Rattle.gathering_rules.specs.Verdict.{crc_verdict, verdict}

-- ---- which numbers each rule answers

module _ (P : ℕ → Type 0) where
  crc_verdict_is_one_of : P 2 → P 16 → P 17 → (section : List ℕ) → P (crc_verdict section)
  unfolding crc_verdict
  crc_verdict_is_one_of p2 p16 p17 section = of_both P _ _ _ p16 (of_both P _ _ _ p17 p2)

  pub verdict_is_one_of : P 2 → P 16 → P 17 → (form : Form) (section : List ℕ) → P (verdict form section)
  unfolding verdict
  verdict_is_one_of p2 p16 p17 Form.Compact section = p2
  verdict_is_one_of p2 p16 p17 Form.Full section = crc_verdict_is_one_of p2 p16 p17 section
  verdict_is_one_of p2 p16 p17 Form.Once section = crc_verdict_is_one_of p2 p16 p17 section

  pub start_refusal_is_one_of : P 0 → P 10 → P 11 → P 12 → P 13 → P 14 → (form : Form) (memory : Memory) (bytes : List ℕ)
      → P (start_refusal form memory bytes)
  unfolding start_refusal
  start_refusal_is_one_of p0 p10 p11 p12 p13 p14 form memory bytes =
      of_both P _ _ _ p10
      (of_both P _ _ _ p11 (of_both P _ _ _ p12 (of_both P _ _ _ p13 (of_both P _ _ _ p14 p0))))

  OfNumber : Says ℕ → Type 0
  OfNumber s = P s.number

  starting_at_is_one_of : P 0 → P 7 → P 8 → (start : ℕ) → OfNumber (starting_at start)
  unfolding starting_at OfNumber
  starting_at_is_one_of p0 p7 p8 start = of_both OfNumber _ _ _ p7 (of_both OfNumber _ _ _ p8 p0)

  payload_is_one_of : P 0 → P 6 → P 7 → P 8 → (packet : List ℕ) → OfNumber (payload_behind packet)
  unfolding payload_behind OfNumber
  payload_is_one_of p0 p6 p7 p8 packet =
      of_both OfNumber _ _ _ (starting_at_is_one_of p0 p7 p8 4)
      (of_both OfNumber _ _ _ (starting_at_is_one_of p0 p7 p8 _) p6)

  pub checked_is_one_of : P 0 → P 3 → P 4 → P 5 → P 6 → P 7 → P 8 → P 25 → (is_sound : Bool) (packet : List ℕ) (buffer : ℕ)
      → P (checked is_sound packet buffer).number
  unfolding checked of_a_packet OfNumber
  checked_is_one_of p0 p3 p4 p5 p6 p7 p8 p25 is_sound packet buffer =
      of_both OfNumber _ _ _ p3
      (of_both OfNumber _ _ _ p4
      (of_both OfNumber _ _ _ p5 (of_both OfNumber _ _ _ p25 (payload_is_one_of p0 p6 p7 p8 packet))))

  -- a sound state and a buffer of the right length are not refused for themselves
  sound_is_one_of : P 0 → P 3 → P 4 → P 6 → P 7 → P 8 → (packet : List ℕ) (buffer : ℕ) → buffer ≡ buffer_length
      → P (checked true packet buffer).number
  unfolding checked of_a_packet OfNumber
  sound_is_one_of p0 p3 p4 p6 p7 p8 packet buffer lent =
      of_both OfNumber _ _ _ p3
      (of_both OfNumber _ _ _ p4
      (subst OfNumber (sym (test_fails _ _ _ (ap not (eq-eqb buffer buffer_length lent)) ∙ test_fails _ _ _ refl))
      (payload_is_one_of p0 p6 p7 p8 packet)))

-- ---- 5 and 25

pub another : (n : ℕ) → (n is 5) ≡ false → (n is 25) ≡ false → NotTheHosts n
another n e f = record { not5 = eqb-false n 5 e; not25 = eqb-false n 25 f }

pub verdict_answers : (form : Form) (section : List ℕ) → NotTheHosts (verdict form section)
verdict_answers = verdict_is_one_of NotTheHosts (another 2 refl refl) (another 16 refl refl) (another 17 refl refl)

pub start_refusal_answers : (form : Form) (memory : Memory) (bytes : List ℕ) → NotTheHosts (start_refusal form memory bytes)
start_refusal_answers =
    start_refusal_is_one_of NotTheHosts (another 0 refl refl) (another 10 refl refl) (another 11 refl refl) (another 12 refl refl)
    (another 13 refl refl) (another 14 refl refl)

pub checked_answers : (packet : List ℕ) (buffer : ℕ) → buffer ≡ buffer_length → NotTheHosts (checked true packet buffer).number
checked_answers =
    sound_is_one_of NotTheHosts (another 0 refl refl) (another 3 refl refl) (another 4 refl refl) (another 6 refl refl)
    (another 7 refl refl) (another 8 refl refl)
