-- The figures of the whole table are computed at once, and each fact is read off that.
use Rattle.std.specs.Prelude.{◌≡◌, List, map, get_or, All}
use Rattle.std.proofs.Common.{sym, ap, ◌∙◌, refl}
use Rattle.std.proofs.lemmas.List.{get_or-map}
use Rattle.earliest.specs.Numbers.{first_by}
use Rattle.earliest.specs.Sorted.{inserted}
use Rattle.turns.specs.Orders.{from_to, standing_at, in_order}
use Rattle.waiting.specs.Queues.{none_waiting}
use Rattle.waiting.specs.Tickets.{ticket_before}
use Rattle.history.specs.Gates.{rest_others}
use Rattle.history.specs.Standing.{stands, smallest_below, is_ahead_of_others, leader}
use Rattle.examples.specs.Cases.{cases, by_definition, in_table, AllAsDefined}

-- two functions that make the same list of one list agree on each of its entries
agree_on_each : {A B : Type 0} (f g : A → B) (xs : List A) → map f xs ≡ map g xs → All (λ x. f x ≡ g x) xs
agree_on_each f g xs same k d low = sym (get_or-map f xs k d (f d) low) ∙ ap (λ ys. get_or ys k (f d)) same ∙ get_or-map g xs k d (f d) low

table_computed : map (map by_definition) cases ≡ map (map in_table) cases
unfolding cases from_to standing_at in_order inserted first_by ticket_before none_waiting rest_others stands smallest_below is_ahead_of_others leader
table_computed = refl

pub all_as_defined : AllAsDefined
all_as_defined n none low =
    let same = agree_on_each (map by_definition) (map in_table) cases table_computed in
    agree_on_each by_definition in_table (get_or cases n none) (same n none low)
