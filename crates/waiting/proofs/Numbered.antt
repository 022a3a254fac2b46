-- The first ticket with a number in a queue, and the queue without it.
use Rattle.std.proofs.Common.{◌≡◌, ℕ, ◌+◌, ◌<◌, false, nat_eq, List, [], ◌∷◌, length, take, slice_get, slice_index_or, Option, Some, None, All, refl, sym, ap, subst, ◌∙◌, arith, ⊎_elim}
use Rattle.std.specs.List.{position_or_len}
use Rattle.std.proofs.lemmas.Bool.{cases_Bool}
use Rattle.std.proofs.lemmas.List.{get_or_default}
use Rattle.std.proofs.lemmas.List.Elements.{All-cons}
use Rattle.std.proofs.lemmas.List.Folds.{find_at}
use Rattle.std.proofs.lemmas.Option.{get_or_from_slice_get, same_Some, slice_get-get_or, slice_get_within}
use Rattle.earliest.specs.Sorted.{inserted, sorted}
use Rattle.earliest.proofs.InOrder.{cancel, in_front_of_all}
use Rattle.earliest.proofs.Weak.{weak}
use Rattle.waiting.specs.Places.{queue_in, first_of_two, first_with}
use Rattle.waiting.specs.Queues.{ticket_numbered, without_numbered}
use Rattle.waiting.specs.Tickets.{ticket_before, ticket_order}
use Rattle.waiting.specs.declared.ticket.Ticket.{Ticket}
use Rattle.waiting.proofs.Sorting.{Ascend, next_sorted, queues_ascend}

-- where none has the number, all stay
pub all_stay : (n : ℕ) (ts : List Ticket) → ticket_numbered n ts ≡ None → without_numbered n ts ≡ ts
unfolding without_numbered
all_stay n [] none = refl
all_stay n (t ∷ ts) none = let rest = all_stay n ts in grind arith

-- what holds of every ticket holds of the one that has the number
pub holds_of_numbered : (P : Ticket → Type 0) (n : ℕ) (ts : List Ticket) (t : Ticket) → All P ts → ticket_numbered n ts ≡ Some t → P t
holds_of_numbered P n ts t all found =
    let k = position_or_len (λ u. nat_eq u.number n) ts in
    let at : slice_get ts k ≡ Some t = sym (find_at (λ u. nat_eq u.number n) ts) ∙ found in
    subst P (get_or_from_slice_get ts k t t at) (all k t (slice_get_within ts k t at))

-- the ticket that left, put back
put_back : (n : ℕ) (t : Ticket) (q : List Ticket) → Ascend q → ticket_numbered n q ≡ Some t → inserted ticket_before t (without_numbered n q) ≡ q
unfolding without_numbered inserted
put_back n t [] up found = absurd (grind (arith, found))
put_back n t (u ∷ us) up found =
    ⊎_elim
    (λ yes.
    let is : u ≡ t = same_Some u t (grind (arith, yes, found)) in
    rw yes (subst (λ v. inserted ticket_before v us ≡ u ∷ us) is (in_front_of_all ticket_before ticket_order u us up.0)))
    (λ no.
    let found_later : ticket_numbered n us ≡ Some t = grind (arith, no, found) in
    let rest = put_back n t us up.1 found_later in
    let later = holds_of_numbered (λ v. ticket_before v u ≡ false) n us t up.0 found_later in
    rw no (rw later (ap (λ l. u ∷ l) rest)))
    (cases_Bool (nat_eq u.number n))

pub rest_waits : (n : ℕ) (t : Ticket) (ts us : List Ticket) → ticket_numbered n (sorted ticket_before ts) ≡ Some t → inserted ticket_before t (sorted ticket_before us) ≡ sorted ticket_before ts → sorted ticket_before us ≡ without_numbered n (sorted ticket_before ts)
rest_waits n t ts us first rest = cancel ticket_before ticket_order t _ _ (rest ∙ sym (put_back n t (sorted ticket_before ts) (queues_ascend ts) first))

-- t is the first where the other is not before it
t_first : (t : Ticket) (o : Option Ticket) → ((u : Ticket) → o ≡ Some u → ticket_before u t ≡ false) → first_of_two t o ≡ Some t
t_first t None none = refl
t_first t (Some u) none = rw (none u refl) refl

-- the other is the first where t is not before it
other_first : (t u : Ticket) → ticket_before t u ≡ false → first_of_two t (Some u) ≡ Some u
other_first t u later =
    ⊎_elim
    (λ earlier. rw earlier refl)
    (λ neither. rw neither (ap Some (ticket_order.total t u later neither)))
    (cases_Bool (ticket_before u t))

-- where a ticket comes to a queue
with_one_more : (n : ℕ) (t : Ticket) (q : List Ticket) → Ascend q → ticket_numbered n (inserted ticket_before t q) ≡ first_with n (Some t) (ticket_numbered n q)
unfolding inserted
with_one_more n t [] up = refl
with_one_more n t (u ∷ us) up =
    let o = weak ticket_order in
    ⊎_elim
    (λ before.
    let back = o.one_way t u before in
    let NotBefore : Ticket → Type 0 = λ v. ticket_before v t ≡ false in
    let none_before : All NotBefore (u ∷ us) = All-cons NotBefore u us back (λ k d short. o.chain _ u t (up.0 k d short) back) in
    let first = t_first t (ticket_numbered n (u ∷ us)) (λ v found. holds_of_numbered NotBefore n (u ∷ us) v none_before found) in
    rw before (grind (arith, first)))
    (λ not.
    let rest = with_one_more n t us up.1 in
    let first = other_first t u not in
    rw not (grind (arith, rest, first)))
    (cases_Bool (ticket_before t u))

pub next_numbered : (n : ℕ) (ts : List Ticket) (i : ℕ) → i < length ts → ticket_numbered n (queue_in (i + 1) ts) ≡ first_with n (slice_get ts i) (ticket_numbered n (queue_in i ts))
next_numbered n [] i within = absurd (omega (arith, within))
next_numbered n (u ∷ us) i within =
    let ts = u ∷ us in
    let t = slice_index_or ts i u in
    let here : slice_get ts i ≡ Some t = slice_get-get_or ts i u within in
    let more = next_sorted ts i t within (get_or_default ts i u t within) in
    ap (ticket_numbered n) more ∙ with_one_more n t _ (queues_ascend (take i ts)) ∙ ap (λ o. first_with n o (ticket_numbered n (queue_in i ts))) (sym here)
