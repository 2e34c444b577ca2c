-- A host's walk gets what the standard's loop holds, for every kind of entry. Assumes nothing.
use Prim.Native.Nat.{ℕ, zero, suc, ◌+◌, ◌-◌, ◌≤◌, ◌<◌}
use mathlib.Core.Path.{◌≡◌, refl, sym, ap, ap₂, ◌∙◌}
use mathlib.Core.Bool.{true, false, not}
use mathlib.Core.List.{List, []}
use native.Mathlib.Omega.{arith}
use borrow.Author.Tests.{lt-ltb, le-ltb, ltb-false, eqb-true, eqb-false, eq-eqb, ne_eqb}
use lib.ListN.{length, drop, length-drop}
use lib.Seq.{drop-drop}
use Rattle.std.specs.Prelude.{Result, Ok, Err}
use Rattle.fields.specs.Choice.{when◌then◌else◌, ◌is◌, ◌is_below◌}
use Rattle.fields.proofs.Choices.{test_holds, test_fails, by_test, second_chosen, either_way}
use Rattle.answers.specs.Numbers.{walk_at_end, position_above_length}
use Rattle.answers.specs.Says.{Says, refused, says}
use Rattle.answers.specs.Refusals.{number_of}
use Rattle.answers.specs.declared.Refusal.{Refusal}
use Rattle.answers.proofs.Saying.{same_values, given_is_not_refused}
use Rattle.walks.specs.Walk.{Kind, Found, found, nothing, none_fits_at, left_of, found_at, entries_in, left_behind, left_from, Walked, got, ended_by, walked, exactly}

-- an entry that fits has two bytes or more, and they are there; what says why none does refuses
pub record Fitting {Entry : Type 0} (kind : Kind Entry) : Type 0 where
  pub whole : (bytes : List ℕ) → kind.fits bytes ≡ true → (2 ≤ kind.size bytes) × (kind.size bytes ≤ length bytes)
  pub refuses : (bytes : List ℕ) → kind.why_not bytes ≡ 0 → ⊥

-- ---- a call: above the body's length, at its end, and before it, where an entry fits and where none does

module _ {Entry : Type 0} (kind : Kind Entry) (body : List ℕ) (position : ℕ) where
  pub found_above : length body < position → found_at kind body position ≡ refused position_above_length (nothing kind)
  unfolding found_at
  found_above l = test_holds _ _ _ (lt-ltb _ _ l)

  pub found_end : position ≡ length body → found_at kind body position ≡ refused walk_at_end (nothing kind)
  unfolding found_at
  found_end e = test_fails _ _ _ (le-ltb (length body) position (omega arith)) ∙ test_holds _ _ _ (eq-eqb _ _ e)

  found_before_end : position < length body
      → found_at kind body position
      ≡ (when not (kind.fits (drop position body)) then none_fits_at kind position (kind.why_not (drop position body))
      else found (kind.entry position (drop position body)) (position + kind.size (drop position body)))
  unfolding found_at
  found_before_end l =
      test_fails _ _ _ (le-ltb (length body) position (omega arith))
      ∙ test_fails _ _ _ (ne_eqb position (length body) (λ (e : position ≡ length body). omega arith))

  pub found_entry : position < length body → kind.fits (drop position body) ≡ true
      → found_at kind body position
      ≡ found (kind.entry position (drop position body)) (position + kind.size (drop position body))
  found_entry l f = found_before_end l ∙ test_fails _ _ _ (ap not f)

  pub found_none : position < length body → kind.fits (drop position body) ≡ false
      → found_at kind body position ≡ none_fits_at kind position (kind.why_not (drop position body))
  found_none l f = found_before_end l ∙ test_holds _ _ _ (ap not f)

  -- ---- the same, where a call asked first what is left of the body

  -- where nothing is, the walk is refused with that number
  pub refused_as_its_left : {answer : Result ℕ Refusal} {refusal : Refusal} → answer ≡ Err refusal
      → says 0 answer ≡ left_of body position → found_at kind body position ≡ refused (number_of refusal) (nothing kind)
  unfolding left_of found_at
  refused_as_its_left {refusal} known said =
      either_way (length body is_below position) _ _ _ (sym said ∙ ap (says 0) known)
      (λ above f. test_holds _ _ _ above ∙ numbered f)
      (λ within f. either_way (position is length body) _ _ _ f
      (λ at_end g. test_fails _ _ _ within ∙ test_holds _ _ _ at_end ∙ numbered g)
      (λ before g. absurd (given_is_not_refused refusal g)))
    where
      numbered : {m n : ℕ} → refused {Values = ℕ} m 0 ≡ refused {Values = ℕ} n 0 → refused m (nothing kind) ≡ refused n (nothing kind)
      numbered e = ap (λ (n : ℕ). refused n (nothing kind)) (ap (λ (s : Says ℕ). s.number) e)

-- where something is left, the position stands before the body's end
pub left_given : (body : List ℕ) (position : ℕ) {answer : Result ℕ Refusal} {left : ℕ} → answer ≡ Ok left
    → says 0 answer ≡ left_of body position → (position < length body) × (left ≡ length body - position)
unfolding left_of
left_given body position known said =
    let e = sym said ∙ ap (says 0) known in
    let above = second_chosen _ _ _ _ e (λ f. given_is_not_refused Refusal.PositionAboveLength (sym f)) in
    let end = second_chosen _ _ _ _ above.1 (λ f. given_is_not_refused Refusal.WalkAtEnd (sym f)) in
    let most = ltb-false (length body) position above.0 in
    let other = eqb-false position (length body) end.0 in
    (omega (arith, most, other), same_values (sym end.1))

-- ---- how a host's walk ends: with 23 where no bytes are left behind, else with why none fits into them and where they begin

module _ {Entry : Type 0} (kind : Kind Entry) (entries : List Entry) (left : List ℕ) (from : ℕ) where
  pub ends_at_end : length left ≡ 0
      → ((exactly kind entries left from).ended ≡ walk_at_end) × ((exactly kind entries left from).offset ≡ 0)
  ends_at_end e = (test_holds _ _ _ (eq-eqb _ _ e), test_holds _ _ _ (eq-eqb _ _ e))

  pub ends_before : (length left ≡ 0 → ⊥)
      → ((exactly kind entries left from).ended ≡ kind.why_not left) × ((exactly kind entries left from).offset ≡ from)
  ends_before n = (test_fails _ _ _ (ne_eqb _ _ n), test_fails _ _ _ (ne_eqb _ _ n))

-- ---- a host that asks once more

module _ {Entry : Type 0} (ask : ℕ → Says (Found Entry)) (calls position : ℕ) where
  walk_goes_on : (entry : Entry) (next : ℕ) → ask position ≡ found entry next
      → walked ask (suc calls) position ≡ got entry (walked ask calls next)
  unfolding walked when◌then◌else◌
  walk_goes_on entry next e = rw e

  walk_ends : (number : ℕ) (told : Found Entry) → (number ≡ 0 → ⊥) → ask position ≡ refused number told
      → walked ask (suc calls) position ≡ ended_by number told.offset
  unfolding walked
  walk_ends number told n e = rw e (test_fails _ _ _ (ne_eqb _ _ n))

module _ {Entry : Type 0} (kind : Kind Entry) (fitting : Fitting kind) where
  -- ---- the loop

  -- what is due to a host that walks it, in so many turns, from a position on
  due : ℕ → ℕ → List ℕ → Walked Entry
  due turns position bytes =
      exactly kind (entries_in kind turns position bytes) (left_behind kind turns bytes) (left_from kind turns position bytes)

  -- where no entry fits it has none and leaves all
  loop_stops : (turns position : ℕ) (bytes : List ℕ) → kind.fits bytes ≡ false
      → due turns position bytes ≡ exactly kind [] bytes position
  unfolding due entries_in left_behind left_from when◌then◌else◌
  loop_stops zero position bytes f = refl
  loop_stops (suc turns) position bytes f = rw f refl

  -- where one fits it has that one, and what the loop over the bytes behind has and leaves
  loop_turns : (turns position : ℕ) (bytes : List ℕ) → kind.fits bytes ≡ true
      → due (suc turns) position bytes
      ≡ got (kind.entry position bytes) (due turns (position + kind.size bytes) (drop (kind.size bytes) bytes))
  unfolding due entries_in left_behind left_from when◌then◌else◌
  loop_turns turns position bytes f = rw f refl

  -- no entry fits into nothing
  none_in_nothing : (bytes : List ℕ) → length bytes ≡ 0 → kind.fits bytes ≡ false
  none_in_nothing bytes e = by_test (kind.fits bytes) (λ f. absurd (let w = fitting.whole bytes f in omega arith)) (λ f. f)

  -- it does not end for want of turns: nothing fits into what it leaves
  pub nothing_left_fits : (turns : ℕ) (bytes : List ℕ) → length bytes ≤ turns → kind.fits (left_behind kind turns bytes) ≡ false
  unfolding left_behind
  nothing_left_fits zero bytes l = none_in_nothing bytes (omega arith)
  nothing_left_fits (suc turns) bytes l =
      by_test (kind.fits bytes)
      (λ f. let w = fitting.whole bytes f in
      ap kind.fits (test_holds _ _ _ f)
      ∙ nothing_left_fits turns (drop (kind.size bytes) bytes) (simp length-drop (omega arith)))
      (λ f. ap kind.fits (test_fails _ _ _ f) ∙ f)

  -- its entries have two bytes or more each, so the calls that get them and the last are no more than the bytes, or one
  pub entries_have_bytes : (turns position : ℕ) (bytes : List ℕ)
      → length (entries_in kind turns position bytes) + length (entries_in kind turns position bytes) ≤ length bytes
  unfolding entries_in
  entries_have_bytes zero position bytes = omega arith
  entries_have_bytes (suc turns) position bytes =
      by_test (kind.fits bytes)
      (λ f. let w = fitting.whole bytes f in
      rw (test_holds _ _ _ f)
      (omega (
        arith,
        entries_have_bytes turns (position + kind.size bytes) (drop (kind.size bytes) bytes),
        length-drop (kind.size bytes) bytes,
      )))
      (λ f. rw (test_fails _ _ _ f) (omega arith))

  -- ---- the walk is the loop

  module _ (body : List ℕ) where
    -- at the end
    walk_at_end_lem : (turns calls position : ℕ) → position ≡ length body
        → walked (found_at kind body) (suc calls) position ≡ due turns position (drop position body)
    walk_at_end_lem turns calls position e =
        let empty : length (drop position body) ≡ 0 = simp length-drop (omega arith) in
        walk_ends (found_at kind body) calls position walk_at_end (nothing kind) (λ z. omega arith) (found_end kind body position e)
        ∙ sym (ap₂ ended_by (test_holds _ _ _ (eq-eqb _ _ empty)) (test_holds _ _ _ (eq-eqb _ _ empty)))
        ∙ sym (loop_stops turns position (drop position body) (none_in_nothing (drop position body) empty))

    -- where no entry fits
    walk_stops : (turns calls position : ℕ) → position < length body → kind.fits (drop position body) ≡ false
        → walked (found_at kind body) (suc calls) position ≡ due turns position (drop position body)
    walk_stops turns calls position l f =
        let bytes = drop position body in
        let some : length bytes ≡ 0 → ⊥ = λ e. omega (arith, length-drop position body) in
        walk_ends (found_at kind body) calls position (kind.why_not bytes) (none_fits_at kind position (kind.why_not bytes)).values
        (fitting.refuses bytes)
        (found_none kind body position l f)
        ∙ sym (ap₂ ended_by (test_fails _ _ _ (ne_eqb _ _ some)) (test_fails _ _ _ (ne_eqb _ _ some)))
        ∙ sym (loop_stops turns position bytes f)

    -- where one fits and the rest of the walk is as due
    walk_goes_on_as_due : (turns calls position : ℕ) → position < length body → kind.fits (drop position body) ≡ true
        → (let next = position + kind.size (drop position body) in
        walked (found_at kind body) calls next ≡ due turns next (drop next body))
        → walked (found_at kind body) (suc calls) position ≡ due (suc turns) position (drop position body)
    walk_goes_on_as_due turns calls position l f later =
        let bytes = drop position body in
        let next = position + kind.size bytes in
        walk_goes_on (found_at kind body) calls position (kind.entry position bytes) next (found_entry kind body position l f)
        ∙ ap (got (kind.entry position bytes))
        (later ∙ ap (due turns next) (sym (drop-drop (kind.size bytes) position body)))
        ∙ sym (loop_turns turns position bytes f)

    walk_is_due : (turns calls position : ℕ) → position ≤ length body → length body - position ≤ turns → length body - position ≤ calls
        → 0 < calls → walked (found_at kind body) calls position ≡ due turns position (drop position body)
    walk_is_due turns zero position h t c n = absurd (omega arith)
    walk_is_due zero (suc calls) position h t c n = walk_at_end_lem zero calls position (omega arith)
    walk_is_due (suc turns) (suc calls) position h t c n =
        by_test (position is length body)
        (λ e. walk_at_end_lem (suc turns) calls position (eqb-true _ _ e))
        (λ e.
        let before : position ≡ length body → ⊥ = eqb-false _ _ e in
        let l : position < length body = omega arith in
        by_test (kind.fits (drop position body))
        (λ f.
        let w = fitting.whole (drop position body) f in
        let len = length-drop position body in
        walk_goes_on_as_due turns calls position l f
        (walk_is_due turns calls (position + kind.size (drop position body)) (omega arith) (omega arith) (omega arith) (omega arith)))
        (λ f. walk_stops (suc turns) calls position l f))

    -- a host that may make as many calls as there are bytes from its first position on, and at least one, gets the entries of the loop over
    -- them, and then 23, or why no entry fits into the bytes that the loop leaves and where these begin
    pub walk_is_the_loop : (position calls : ℕ) → position ≤ length body → 0 < calls → length (drop position body) ≤ calls
        → (let bytes = drop position body in
        walked (found_at kind body) calls position
        ≡ exactly kind
        (entries_in kind (length bytes) position bytes)
        (left_behind kind (length bytes) bytes)
        (left_from kind (length bytes) position bytes))
    unfolding due
    walk_is_the_loop position calls h n c =
        let len = length-drop position body in
        walk_is_due (length (drop position body)) calls position h (omega arith) (omega arith) n

    -- what the loop leaves is what stands in the body from there on: its first byte is the first that is in no entry
    pub left_from_there : (turns position : ℕ) → position ≤ length body
        → (left_behind kind turns (drop position body) ≡ drop (left_from kind turns position (drop position body)) body)
        × (left_from kind turns position (drop position body) ≤ length body)
    unfolding left_behind left_from when◌then◌else◌
    left_from_there zero position h = (refl, h)
    left_from_there (suc turns) position h =
        by_test (kind.fits (drop position body))
        (λ f.
        let w = fitting.whole (drop position body) f in
        let len = length-drop position body in
        rw f (rw (drop-drop (kind.size (drop position body)) position body)
        (left_from_there turns (position + kind.size (drop position body)) (omega arith))))
        (λ f. rw f (refl, h))
