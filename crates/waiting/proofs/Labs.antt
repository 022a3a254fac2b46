-- The queues of all labs, and what holds of every ticket of a queue.
use Rattle.std.proofs.Common.{◌≡◌, ℕ, ◌+◌, ◌<◌, ◌≤◌, Bool, true, false, nat_eq, List, [], ◌∷◌, ◌++◌, length, map, take, drop, slice_index_or, slice_set, Option, Some, None, IsSome, if◌then◌else◌, All, refl, sym, ap, subst, ◌∙◌, arith, ⊎_elim, true≢false}
use Rattle.std.specs.List.{flat_map}
use Rattle.std.specs.Option.{option_or, option_map_or}
use Rattle.std.proofs.lemmas.Bool.{cases_Bool, cases_eq, cases_lt}
use Rattle.std.proofs.lemmas.List.{get_or-set_same, get_or-set_other, get_or_default, get_or_past, append-nil, take_more, take-append-drop, get_or-replicate, ext_get_or, length-replicate, length-set}
use Rattle.std.proofs.lemmas.List.Elements.{All-cons, All-drop, All-head, All-nil, All-tail}
use Rattle.std.proofs.lemmas.List.Edits.{map_over_more}
use Rattle.std.proofs.lemmas.List.Folds.{find-append}
use Rattle.std.proofs.lemmas.Simd.{splat_is_map}
use Rattle.std.proofs.lemmas.Grind.{flat_map-append}
use Rattle.std.proofs.lemmas.List.Sorted.{All-permutation}
use Rattle.earliest.specs.Sorted.{inserted}
use Rattle.earliest.proofs.InOrder.{inserted_same}
use Rattle.measures.specs.Limits.{most_labs}
use Rattle.waiting.specs.Tickets.{ticket_before}
use Rattle.waiting.specs.Queues.{none_waiting, queue_of, with_queue, IsInOrder, ticket_numbered, without_numbered, waiting_ticket, without_ticket, AreOwn}
use Rattle.waiting.specs.declared.ticket.Ticket.{Ticket}
use Rattle.waiting.proofs.Numbered.{holds_of_numbered}

-- what holds of every ticket of a queue, and of one that comes, holds of every ticket then
pub All-inserted : (P : Ticket → Type 0) (t : Ticket) (q : List Ticket) → P t → All P q → All P (inserted ticket_before t q)
All-inserted P t q first rest = All-permutation P (t ∷ q) _ (inserted_same ticket_before t q) (All-cons P t q first rest)

-- and of those that stay
pub All-without_numbered : (P : Ticket → Type 0) (n : ℕ) (q : List Ticket) → All P q → All P (without_numbered n q)
unfolding without_numbered
All-without_numbered P n [] all = all
All-without_numbered P n (u ∷ us) all =
    let later = All-tail P u us all in
    ⊎_elim
    (λ yes. rw yes later)
    (λ no. rw no (All-cons P u (without_numbered n us) (All-head P u us all) (All-without_numbered P n us later)))
    (cases_Bool (nat_eq u.number n))

-- what holds of each queue, and of the one that is put in its place, holds of each queue then
pub each_set : (P : ℕ → List Ticket → Type 0) (qs : List (List Ticket)) (k : ℕ) (q : List Ticket) → ((j : ℕ) → P j (queue_of qs j)) → P k q
    → (j : ℕ) → P j (queue_of (slice_set qs k q) j)
each_set P qs k q each new j =
    ⊎_elim
    (λ same. subst (λ i. P i (queue_of (slice_set qs k q) i)) (sym same) (⊎_elim
    (λ low. subst (P k) (sym (get_or-set_same qs k q [] low)) new)
    (λ past. subst (P k) (get_or_past qs k [] past ∙ sym (get_or_past (slice_set qs k q) k [] (omega (arith, past, length-set qs k q)))) (each k))
    (cases_lt k (length qs))))
    (λ other. subst (P j) (sym (get_or-set_other qs k j q [] other)) (each j))
    (cases_eq j k)

-- every ticket of q is lab k's
abbrev Own : ℕ → List Ticket → Type 0
Own k q = All (λ t. t.lab ≡ k) q

pub queue_of-none_waiting : (k : ℕ) → queue_of none_waiting k ≡ []
unfolding none_waiting
queue_of-none_waiting k = ⊎_elim (λ low. get_or-replicate most_labs k [] [] low) (λ past. get_or_past none_waiting k [] (omega (arith, past, length-replicate {A = List Ticket} most_labs []))) (cases_lt k most_labs)

pub no_lab_in_order : (qs : List (List Ticket)) (k : ℕ) → length qs ≤ k → IsInOrder (queue_of qs k)
unfolding IsInOrder
no_lab_in_order qs k past = subst IsInOrder (sym (get_or_past qs k [] past)) (λ i j d low high. absurd (omega (arith, high)))

kept : (o p : Option Ticket) → IsSome o → option_or o p ≡ o
kept None p some = absurd (true≢false (sym some))
kept (Some t) p some = refl

-- `old` is the queue of lab k
module _ (qs : List (List Ticket)) (k : ℕ) (old : List Ticket) (o : AreOwn qs) (lab : k < most_labs) (is : old ≡ slice_index_or qs k old) where
  within : k < length qs
  within = omega (arith, lab, o.labs)

  is_queue : old ≡ queue_of qs k
  is_queue = is ∙ get_or_default qs k old [] within

  own_old : Own k old
  own_old = subst (Own k) (sym is_queue) (o.own k)

  own_set : (q : List Ticket) → Own k q → AreOwn (slice_set qs k q)
  own_set q new = record { labs = length-set qs k q ∙ o.labs; own = each_set Own qs k q o.own new }

  pub own_put : (t : Ticket) (new : List Ticket) (r : Bool) → t.lab ≡ k → new ≡ (if r then inserted ticket_before t old else old) → AreOwn (slice_set qs k new)
  own_put t new true of_k put = own_set new (subst (Own k) (sym put) (All-inserted (λ u. u.lab ≡ k) t old of_k own_old))
  own_put t new false of_k put = own_set new (subst (Own k) (sym put) own_old)

  pub own_take : (new : List Ticket) → new ≡ drop 1 old → AreOwn (slice_set qs k new)
  own_take new taken = own_set new (subst (Own k) (sym taken) (All-drop (λ t. t.lab ≡ k) 1 old own_old))

  pub own_withdraw : (n : ℕ) (new : List Ticket) → new ≡ without_numbered n old → AreOwn (slice_set qs k new)
  own_withdraw n new gone = own_set new (subst (Own k) (sym gone) (All-without_numbered (λ t. t.lab ≡ k) n old own_old))

  -- r is the ticket that left, and is lab k's
  left : (n : ℕ) (new : List Ticket) (r : Option Ticket) → ticket_numbered n (queue_of qs k) ≡ r → IsSome r → new ≡ without_numbered n old → slice_set qs k new ≡ option_map_or (λ t. with_queue qs t.lab (without_numbered n (queue_of qs t.lab))) r qs
  left n new None found some gone = absurd (true≢false (sym some))
  left n new (Some t) found some gone =
      let lab_is : k ≡ t.lab = sym (holds_of_numbered (λ u. u.lab ≡ k) n (queue_of qs k) t (o.own k) found) in
      ap (slice_set qs k) (gone ∙ ap (without_numbered n) is_queue) ∙ (λ i. with_queue qs (lab_is i) (without_numbered n (queue_of qs (lab_is i))))

  pub without_ticket_is : (n : ℕ) (new : List Ticket) → waiting_ticket qs n ≡ ticket_numbered n (queue_of qs k) → IsSome (ticket_numbered n (queue_of qs k)) → new ≡ without_numbered n old → slice_set qs k new ≡ without_ticket qs n
  without_ticket_is n new lowest some gone = left n new (waiting_ticket qs n) (sym lowest) (subst IsSome (sym lowest) some) gone

pub own_none : (qs : List (List Ticket)) → qs ≡ none_waiting → AreOwn qs
unfolding none_waiting
own_none qs none = record {
  labs = ap length none ∙ length-replicate {A = List Ticket} most_labs [];
  own = λ k. subst (Own k) (sym (ap (λ l. queue_of l k) none ∙ queue_of-none_waiting k)) (All-nil _);
}

pub all_empty : (qs : List (List Ticket)) → length qs ≡ most_labs → ((k : ℕ) → k < most_labs → slice_index_or qs k [] ≡ []) → qs ≡ none_waiting
unfolding none_waiting
all_empty qs labs each = ext_get_or [] qs none_waiting (labs ∙ sym (length-replicate {A = List Ticket} most_labs [])) (λ k short. each k (omega (arith, short, labs)) ∙ sym (queue_of-none_waiting k))

-- queues that were cleared
pub all_cleared : (qs : List (List Ticket)) → length qs ≡ most_labs → map (λ q. []) qs ≡ none_waiting
unfolding none_waiting
all_cleared qs labs = sym (splat_is_map qs most_labs [] labs)

-- and one more
pub one_cleared : (before qs : List (List Ticket)) (k : ℕ) (x y : List Ticket) → k < length before → qs ≡ map (λ q. []) (take k before) ++ drop k before
    → x ≡ slice_index_or qs k x → y ≡ []
    → slice_set qs k y ≡ map (λ q. []) (take (k + 1) before) ++ drop (k + 1) before
one_cleared before qs k x y within so_far read cleared = ap (slice_set qs k) cleared ∙ map_over_more (λ q. []) before qs k x within so_far read

-- the labs up to k
module _ (n : ℕ) (qs : List (List Ticket)) (k : ℕ) (within : k < length qs) where
  -- where no lab below k has a ticket with the number
  pub next_lab : waiting_ticket (take k qs) n ≡ None → waiting_ticket (take (k + 1) qs) n ≡ ticket_numbered n (queue_of qs k)
  next_lab none =
      ap (λ l. waiting_ticket l n) (take_more qs k [] within)
      ∙ ap (ticket_numbered n) (flat_map-append (λ q. q) (take k qs) (queue_of qs k ∷ []))
      ∙ find-append (λ t. nat_eq t.number n) (flat_map (λ q. q) (take k qs)) (queue_of qs k ++ [])
      ∙ (λ i. option_or (none i) (ticket_numbered n (append-nil (queue_of qs k) i)))

  pub lowest_lab : waiting_ticket (take k qs) n ≡ None → IsSome (ticket_numbered n (queue_of qs k)) → waiting_ticket qs n ≡ ticket_numbered n (queue_of qs k)
  lowest_lab none some =
      let first = take (k + 1) qs in
      let rest = drop (k + 1) qs in
      ap (λ l. waiting_ticket l n) (sym (take-append-drop (k + 1) qs))
      ∙ ap (ticket_numbered n) (flat_map-append (λ q. q) first rest)
      ∙ find-append (λ t. nat_eq t.number n) (flat_map (λ q. q) first) (flat_map (λ q. q) rest)
      ∙ ap (λ o. option_or o (waiting_ticket rest n)) (next_lab none)
      ∙ kept (ticket_numbered n (queue_of qs k)) (waiting_ticket rest n) some
