-- Elements that are kept between calls, as their callers see them.
use Rattle.std.specs.Prelude.{ℕ, List, take}
use Rattle.earliest.specs.Sorted.{sorted}
use Rattle.earliest_tests.specs.Dated.{dated_before}
use Rattle.earliest_tests.specs.declared.dated.Dated.{Dated}
use Rattle.earliest_tests.specs.declared.kept.Kept.{Kept}

-- how many there are
abbrev pub held : Kept → ℕ
held x = x.used

-- the elements in order
abbrev pub queue : Kept → List Dated
queue x = sorted dated_before (take (held x) x.places)
