-- Walks as document 01 had them, before they said why no entry fits and where: what is to be seen is that nothing else changed.
use Rattle.std.specs.Prelude.{ℕ, ◌+◌, not, List, length, drop}
use Rattle.fields.specs.Choice.{when◌then◌else◌, ◌is◌, ◌is_above◌}
use Rattle.answers.specs.Numbers.{walk_at_end, position_above_length}
use Rattle.answers.specs.Says.{Says, refused}
use Rattle.walks.specs.Walk.{Kind, Found, found, nothing}

-- row 24, "no entry fits here", whatever the kind and the reason
abbrev pub no_entry_fits : ℕ
no_entry_fits = 24

-- "26 if above its length, then 23 if nothing is left"; then 24, or the entry that stands there
unfoldable pub found_before : {Entry : Type 0} → Kind Entry → List ℕ → ℕ → Says (Found Entry)
found_before kind body position =
    when position is_above length body then refused position_above_length (nothing kind)
    else when position is length body then refused walk_at_end (nothing kind)
    else when not (kind.fits (drop position body)) then refused no_entry_fits (nothing kind)
    else found (kind.entry position (drop position body)) (position + kind.size (drop position body))
