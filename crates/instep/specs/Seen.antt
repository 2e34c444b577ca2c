-- What a host sees of a reader.
use Rattle.std.specs.Prelude.{ℕ, List, [], ◌∷◌}
use Rattle.memory.specs.declared.Form.{Form}
use Rattle.delivered.specs.Delivered.{section_of}
use Rattle.reader.specs.declared.Reader.{Reader}
use Rattle.reader.specs.Outcome.{Step}
use Rattle.reader.specs.State.{fresh}
use Rattle.reader.specs.Outcome.{Outcome}
use Rattle.reader.specs.Tail.{tail_of}
use Rattle.reader.specs.Run.{after, head_after}

-- of a step: "all answers, states and delivered bytes", the place with them
pub record Seen : Type 0 where
  pub step : Step
  pub section : List ℕ

unfoldable pub seen : List ℕ → Outcome → Seen
seen packet left =
    record { step = left.step; section = section_of packet left.buffer left.step.answer left.step.place }

-- of packets, "each worked tail then head, the host returning state and buffer untouched"
unfoldable pub seen_over : Reader → List ℕ → List (List ℕ) → List Seen
seen_over reader buffer [] = []
seen_over reader buffer (packet ∷ packets) =
    let tail = tail_of reader packet buffer in
    let head = head_after packet tail in
    seen packet tail ∷ seen packet head ∷ seen_over head.step.reader head.buffer packets

-- the same "from its new section on": from the head step of the first packet on, its tail worked
unfoldable pub seen_from_head : Outcome → List ℕ → List (List ℕ) → List Seen
seen_from_head tail packet packets =
    let head = head_after packet tail in
    seen packet head ∷ seen_over head.step.reader head.buffer packets

-- the tail step of a packet behind a history, "any packets at all", of a fresh reader
unfoldable pub tail_behind : Form → List ℕ → List (List ℕ) → List ℕ → Outcome
tail_behind form buffer history packet =
    let left = after (fresh form) buffer history in
    tail_of left.reader packet left.buffer
