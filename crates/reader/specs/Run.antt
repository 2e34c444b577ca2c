-- A run over packets, each worked tail then head, the host returning state and buffer untouched.
use Rattle.std.specs.Prelude.{ℕ, List, [], ◌∷◌}
use Rattle.reader.specs.declared.Reader.{Reader}
use Rattle.reader.specs.Outcome.{Outcome}
use Rattle.reader.specs.Tail.{tail_of}
use Rattle.reader.specs.Head.{head_of}

-- a packet worked: what each step left
pub record Worked : Type 0 where
  pub tail : Outcome
  pub head : Outcome

abbrev pub head_after : List ℕ → Outcome → Outcome
head_after packet tail = head_of tail.step.reader packet tail.buffer

unfoldable pub worked : Reader → List ℕ → List ℕ → Worked
worked reader buffer packet =
    record { tail = tail_of reader packet buffer; head = head_after packet (tail_of reader packet buffer) }

-- what each packet of a list left
unfoldable pub run : Reader → List ℕ → List (List ℕ) → List Worked
run reader buffer [] = []
run reader buffer (packet ∷ packets) =
    let now = worked reader buffer packet in
    now ∷ run now.head.step.reader now.head.buffer packets

-- the state and the buffer after the last
pub record Left : Type 0 where
  pub reader : Reader
  pub buffer : List ℕ

unfoldable pub after : Reader → List ℕ → List (List ℕ) → Left
after reader buffer [] = record { reader = reader; buffer = buffer }
after reader buffer (packet ∷ packets) =
    let now = worked reader buffer packet in
    after now.head.step.reader now.head.buffer packets

-- of every packet of a run, what both its steps left
unfoldable pub EveryStep : (Outcome → Type 0) → List Worked → Type 0
EveryStep P [] = Unit {0}
EveryStep P (packet ∷ packets) = P packet.tail × P packet.head × EveryStep P packets
