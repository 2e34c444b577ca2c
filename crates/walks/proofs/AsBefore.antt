-- The walks give every entry that they gave before they said why none fits. Assumes nothing.
use Prim.Native.Nat.{ℕ, zero, suc, ◌+◌}
use mathlib.Core.Path.{◌≡◌, refl, ap}
use mathlib.Core.List.{List, ◌∷◌}
use borrow.Author.Tests.{ne_eqb}
use lib.ListN.{length, drop}
use Rattle.fields.specs.Choice.{when◌then◌else◌, ◌is◌, ◌is_above◌}
use Rattle.fields.proofs.Choices.{by_test}
use Rattle.walks.specs.Walk.{Kind, none_fits_at, found_at, walked}
use Rattle.walks.specs.WalkBefore.{no_entry_fits, found_before}
use Rattle.walks.proofs.Walks.{Fitting}

module _ {Entry : Type 0} (kind : Kind Entry) (body : List ℕ) where
  -- a call answers what it answered, save where that was 24
  pub only_24_changed : (position : ℕ)
      → found_at kind body position
      ≡ (when (found_before kind body position).number is no_entry_fits then none_fits_at kind position (kind.why_not (drop position body))
      else found_before kind body position)
  unfolding found_at found_before when◌then◌else◌
  only_24_changed position =
      by_test (position is_above length body)
      (λ above. rw above refl)
      (λ within. rw within
      (by_test (position is length body)
      (λ end. rw end refl)
      (λ before. rw before
      (by_test (kind.fits (drop position body))
      (λ f. rw f refl)
      (λ f. rw f refl)))))

  -- a host gets the entries that it got, in as many calls
  pub same_entries : Fitting kind → (calls position : ℕ)
      → ((walked (found_at kind body) calls position).entries ≡ (walked (found_before kind body) calls position).entries)
      × ((walked (found_at kind body) calls position).calls ≡ (walked (found_before kind body) calls position).calls)
  unfolding walked found_at found_before when◌then◌else◌
  same_entries fitting zero position = (refl, refl)
  same_entries fitting (suc calls) position =
      by_test (position is_above length body)
      (λ above. rw above (refl, refl))
      (λ within. rw within
      (by_test (position is length body)
      (λ end. rw end (refl, refl))
      (λ before. rw before
      (by_test (kind.fits (drop position body))
      (λ f.
      let later = same_entries fitting calls (position + kind.size (drop position body)) in
      rw f (ap (λ (entries : List Entry). kind.entry position (drop position body) ∷ entries) later.0, ap suc later.1))
      (λ f. rw f (rw (ne_eqb _ _ (fitting.refuses (drop position body))) (refl, refl)))))))
