-- Every ticket that waits has a lawful declared length, and so it stays whatever a call does to the queues.
use Rattle.std.proofs.Common.{◌≡◌, ℕ, ◌≤◌, Bool, true, false, nat_lt, List, [], ◌∷◌, length, set, take, drop, Err, if◌then◌else◌, Option, Some, None, All, refl, sym, ap, subst, ◌∙◌, arith, take_at}
use Rattle.std.specs.Option.{option_map_or}
use Rattle.std.proofs.lemmas.Bool.{le-leb, le-ltb}
use Rattle.std.proofs.lemmas.List.{length-append}
use Rattle.std.proofs.lemmas.List.Elements.{All-nil, All-drop}
use Rattle.std.proofs.lemmas.List.Sums.{list_all-from_AllPass}
use Rattle.measures.specs.Limits.{last, most_waiting, is_length}
use Rattle.measures.specs.Refusals.{granted_unless}
use Rattle.measures.specs.declared.refusal.Refusal.{Refusal}
use Rattle.measures.specs.declared.refusal.Refusal.TheVariants.{ListTooShort}
use Rattle.waiting.specs.Queues.{queue_of, none_waiting, with_ticket, without_first, without_numbered, waiting_ticket, without_ticket, headed_by}
use Rattle.waiting.specs.declared.ticket.Ticket.{Ticket}
use Rattle.waiting.proofs.Labs.{each_set, All-inserted, All-without_numbered, queue_of-none_waiting}
use Rattle.outlook.specs.Outlooks.{AllLawful, place_checks, listable}
use Rattle.outlook.proofs.Listed.{deciding_all}

-- the ticket's declared length is lawful
abbrev Lawful : Ticket → Type 0
Lawful t = is_length t.length ≡ true

-- a queue of such tickets in the place of another
lawful_set : (qs : List (List Ticket)) (k : ℕ) (q : List Ticket) → AllLawful qs → All Lawful q → AllLawful (set qs k q)
lawful_set qs k q all new = record { each = each_set (λ _. All Lawful) qs k q all.each new }

-- where no ticket waits
pub lawful_none : (qs : List (List Ticket)) → qs ≡ none_waiting → AllLawful qs
lawful_none qs none = record { each = λ k. subst (All Lawful) (sym (ap (λ l. queue_of l k) none ∙ queue_of-none_waiting k)) (All-nil Lawful) }

-- once a ticket of a lawful declared length has come, or was not taken
pub lawful_come : (before qs : List (List Ticket)) (t : Ticket) (r : Bool) → AllLawful before → is_length t.length ≡ true
    → qs ≡ (if r then with_ticket before t else before) → AllLawful qs
lawful_come before qs t true all new come =
    subst AllLawful (sym come) (lawful_set before t.lab _ all (All-inserted Lawful t (queue_of before t.lab) new (all.each t.lab)))
lawful_come before qs t false all new come = subst AllLawful (sym come) all

-- once a first ticket has left
pub lawful_begun : (before qs : List (List Ticket)) (k : ℕ) → AllLawful before → qs ≡ without_first before k → AllLawful qs
lawful_begun before qs k all left =
    subst AllLawful (sym left) (lawful_set before k _ all (All-drop Lawful 1 (queue_of before k) (all.each k)))

without : (n : ℕ) (qs : List (List Ticket)) (o : Option Ticket) → AllLawful qs
    → AllLawful (option_map_or (λ t. set qs t.lab (without_numbered n (queue_of qs t.lab))) o qs)
without n qs None all = all
without n qs (Some t) all = lawful_set qs t.lab _ all (All-without_numbered Lawful n (queue_of qs t.lab) (all.each t.lab))

-- once a ticket was withdrawn
pub lawful_withdrawn : (before qs : List (List Ticket)) (n : ℕ) → AllLawful before → qs ≡ without_ticket before n → AllLawful qs
lawful_withdrawn before qs n all gone = subst AllLawful (sym gone) (without n before (waiting_ticket before n) all)

-- a refusal by this check alone is its own
short_alone : (short : Bool) (n : ℕ) (r : Refusal) → Err r ≡ granted_unless {A = Unit {0}} ((short, ListTooShort) ∷ []) tt
    → Err r ≡ granted_unless ((short, ListTooShort) ∷ []) n
short_alone true n r denied = cc
short_alone false n r denied = absurd (let z : ◌≡◌ {A = ℕ} 0 1 = cc in omega arith)

-- so a queue that stands at the head of 16 places can be listed, and where that is refused, it is since the list is too short
pub only_short : (qs : List (List Ticket)) (k t count places : ℕ) (tickets before : List Ticket) (r : Refusal) → AllLawful qs → t ≤ last
    → count ≡ length (queue_of qs k) → tickets ≡ headed_by (queue_of qs k) before → length tickets ≡ most_waiting
    → Err r ≡ listable t (take count tickets) places
    → Err r ≡ granted_unless (place_checks (queue_of qs k) places) (length (queue_of qs k))
only_short qs k t count places tickets before r all tick is held room denied =
    let q = queue_of qs k in
    let few : length q ≤ most_waiting = omega (arith, ap length held, length-append q (drop (length q) before), room) in
    let same : take count tickets ≡ q = rw (is, held) (take_at q (drop (length q) before) (length q) refl) in
    short_alone (nat_lt places (length q)) (length q) r
    (denied ∙ rw (same, le-leb t last tick, deciding_all q few, list_all-from_AllPass (λ t. is_length t.length) q (all.each k), le-ltb most_waiting (length q) few) refl)
