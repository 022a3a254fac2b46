-- Waiting tickets, as a log says them and as a gate keeps them.
use Rattle.std.proofs.Common.{◌≡◌, ◌≢◌, ℕ, zero, suc, ◌+◌, ◌<◌, ◌≤◌, Bool, true, false, not, ◌||◌, nat_eq, List, [], ◌∷◌, ◌++◌, length, map, take, drop, set, slice_get, slice_index_or, flat_map, All, AllPairs, IsPermutation, Option, Some, None, is_some, refl, sym, ap, subst, ◌∙◌, arith, ⊎_elim}
use Rattle.std.specs.List.{list_any, IsDistinct}
use Rattle.std.specs.Option.{option_or, option_map_or}
use Rattle.std.proofs.lemmas.Bool.{cases_Bool, cases_eq, cases_lt, eq-eqb, ne_eqb, eqb-true, eqb-false}
use Rattle.std.proofs.lemmas.Grind.{flat_map-append}
use Rattle.std.proofs.lemmas.Option.{same_Some}
use Rattle.std.proofs.lemmas.List.{set_split, set-get_or, get_or_default, get_or_past}
use Rattle.std.proofs.lemmas.List.Elements.{All-cons, All-head, All-tail, All-nil, All-filter, All-from_recursion, recursion_from_All}
use Rattle.std.proofs.lemmas.List.Folds.{find-append, list_any-append, list_any_none}
use Rattle.std.proofs.lemmas.List.Kept.{AllPairs-cons, AllPairs-filter}
use Rattle.std.proofs.lemmas.List.Sorted.{IsPermutation-refl, IsPermutation-sym, IsPermutation-trans, IsPermutation-cons, IsPermutation-middle, IsPermutation-map, IsPermutation-append_left, IsPermutation-append_right, list_any-IsPermutation}
use Rattle.std.proofs.lemmas.Map.Keys.{IsDistinct-IsPermutation}
use Rattle.earliest.specs.Sorted.{inserted}
use Rattle.earliest.proofs.InOrder.{inserted_same}
use Rattle.measures.specs.Limits.{most_labs}
use Rattle.waiting.specs.Tickets.{ticket_before}
use Rattle.waiting.specs.Queues.{none_waiting, queue_of, with_ticket, without_first, ticket_numbered, without_numbered, waiting_ticket, without_ticket, AreOwn}
use Rattle.waiting.specs.declared.ticket.Ticket.{Ticket}
use Rattle.waiting.proofs.Labs.{own_none, own_put, own_take, own_withdraw}
use Rattle.waiting.proofs.Numbered.{holds_of_numbered}
use Rattle.history.proofs.Lists.{filter-permutation}
use Rattle.history.specs.Logs.{WaitingTicket, without_number}
use Rattle.history.specs.Standing.{first_ticket, has_ticket}

-- a list of queues, around the queue of lab k
flat_around : (qs : List (List Ticket)) (k : ℕ) (q : List Ticket) → k < length qs
    → flat_map (λ r. r) (set qs k q) ≡ flat_map (λ r. r) (take k qs) ++ (q ++ flat_map (λ r. r) (drop (suc k) qs))
flat_around qs k q within = ap (flat_map (λ r. r)) (set_split qs k q within) ∙ flat_map-append (λ r. r) (take k qs) (q ∷ drop (suc k) qs)

-- one ticket more in a queue is one more in all
flat_more : (qs : List (List Ticket)) (k : ℕ) (t : Ticket) (less more : List Ticket) → k < length qs → IsPermutation (t ∷ less) more
    → IsPermutation (t ∷ flat_map (λ r. r) (set qs k less)) (flat_map (λ r. r) (set qs k more))
flat_more qs k t less more within put =
    let before = flat_map (λ r. r) (take k qs) in
    let behind = flat_map (λ r. r) (drop (suc k) qs) in
    subst (λ l. IsPermutation (t ∷ l) (flat_map (λ r. r) (set qs k more))) (sym (flat_around qs k less within))
    (subst (IsPermutation (t ∷ (before ++ (less ++ behind)))) (sym (flat_around qs k more within))
    (IsPermutation-trans _ _ _ (IsPermutation-sym _ _ (IsPermutation-middle before t (less ++ behind)))
    (IsPermutation-append_right before _ _ (IsPermutation-append_left behind _ _ put))))

-- in the first queue, or else in a later one
in_first : (n : ℕ) (q : List Ticket) (qs : List (List Ticket)) (t : Ticket) (o : Option Ticket) → ticket_numbered n q ≡ o
    → option_or (ticket_numbered n q) (waiting_ticket qs n) ≡ Some t
    → (waiting_ticket qs n ≡ Some t → (k : ℕ) × (k < length qs) × (ticket_numbered n (queue_of qs k) ≡ Some t))
    → (k : ℕ) × (k < length (q ∷ qs)) × (ticket_numbered n (queue_of (q ∷ qs) k) ≡ Some t)
in_first n q qs t None is found later =
    let rest = later (sym (ap (λ o. option_or o (waiting_ticket qs n)) is) ∙ found) in
    (suc rest.0, omega (arith, rest.1), rest.2)
in_first n q qs t (Some u) is found later = (0, omega arith, is ∙ sym (ap (λ o. option_or o (waiting_ticket qs n)) is) ∙ found)

-- a ticket found among all queues is the first with its number in one of them
found_in : (n : ℕ) (qs : List (List Ticket)) (t : Ticket) → waiting_ticket qs n ≡ Some t
    → (k : ℕ) × (k < length qs) × (ticket_numbered n (queue_of qs k) ≡ Some t)
found_in n [] t found = absurd (cc)
found_in n (q ∷ qs) t found =
    let parts = find-append (λ u. nat_eq u.number n) q (flat_map (λ r. r) qs) in
    in_first n q qs t (ticket_numbered n q) refl (sym parts ∙ found) (found_in n qs t)

-- the ticket found has the number
number_found : (n : ℕ) (ts : List Ticket) (t : Ticket) → ticket_numbered n ts ≡ Some t → t.number ≡ n
number_found n [] t found = absurd (cc)
number_found n (u ∷ us) t found =
    ⊎_elim
    (λ yes. let is = same_Some u t (grind (arith, yes, found)) in subst (λ v. v.number ≡ n) is (eqb-true u.number n yes))
    (λ no. number_found n us t (grind (arith, no, found)))
    (cases_Bool (nat_eq u.number n))

-- a queue is the ticket with the number and the others
numbered_first : (n : ℕ) (ts : List Ticket) (t : Ticket) → ticket_numbered n ts ≡ Some t → IsPermutation (t ∷ without_numbered n ts) ts
unfolding without_numbered
numbered_first n [] t found = absurd (cc)
numbered_first n (u ∷ us) t found =
    ⊎_elim
    (λ yes.
    let is = same_Some u t (grind (arith, yes, found)) in
    rw yes (subst (λ v. IsPermutation (v ∷ us) (u ∷ us)) is (IsPermutation-refl _)))
    (λ no.
    let rest = numbered_first n us t (grind (arith, no, found)) in
    let behind_u = IsPermutation-sym _ _ (IsPermutation-middle (u ∷ []) t (without_numbered n us)) in
    rw no (IsPermutation-trans _ _ _ behind_u (IsPermutation-cons u _ _ rest)))
    (cases_Bool (nat_eq u.number n))

-- a queue is its first ticket and the others
first_first : (ts : List Ticket) (t : Ticket) → slice_get ts 0 ≡ Some t → t ∷ drop 1 ts ≡ ts
first_first [] t found = absurd (cc)
first_first (u ∷ us) t found = ap (λ v. v ∷ us) (sym (same_Some u t found))

-- a lab with a first ticket has a queue
first_within : (qs : List (List Ticket)) (k : ℕ) (t : Ticket) → first_ticket qs k ≡ Some t → k < length qs
first_within qs k t found =
    ⊎_elim
    (λ low. low)
    (λ past.
    let none : slice_get (queue_of qs k) 0 ≡ None = ap (λ q. slice_get q 0) (get_or_past qs k [] past) in
    absurd (let e = sym none ∙ found in cc))
    (cases_lt k (length qs))

-- a waiting ticket, as a log says it
abbrev pub filing_of : Ticket → WaitingTicket
filing_of t = record { lab = t.lab; number = t.number }

-- all waiting tickets, as a log says them
abbrev pub filings : List (List Ticket) → List WaitingTicket
filings qs = map filing_of (flat_map (λ q. q) qs)

-- two filings with different numbers
abbrev pub Apart : WaitingTicket → WaitingTicket → Type 0
Apart v w = v.number ≢ w.number

-- A log's waiting tickets are those of the queues, no two have one number, and no number is above what was given.
pub record SameTickets (ws : List WaitingTicket) (qs : List (List Ticket)) (given : ℕ) : Type 0 where
  pub own : AreOwn qs
  pub same : IsPermutation ws (filings qs)
  pub apart : AllPairs Apart ws
  pub fresh : All (λ w. w.number ≤ given) ws

-- whether two have one number
abbrev one_number : WaitingTicket → WaitingTicket → Bool
one_number v w = nat_eq v.number w.number

-- whichever comes first
flips : (v w : WaitingTicket) → one_number v w ≡ one_number w v
flips v w =
    ⊎_elim
    (λ same. eq-eqb v.number w.number same ∙ sym (eq-eqb w.number v.number (sym same)))
    (λ other. ne_eqb v.number w.number other ∙ sym (ne_eqb w.number v.number (λ same. other (sym same))))
    (cases_eq v.number w.number)

-- no two have one number
distinct_from : (ws : List WaitingTicket) → AllPairs Apart ws → IsDistinct one_number ws
unfolding IsDistinct
distinct_from [] apart = tt
distinct_from (v ∷ ws) apart = (
  recursion_from_All (λ w. one_number v w ≡ false) ws (λ k d low. ne_eqb v.number _ (apart 0 (suc k) d (omega arith) (omega arith))),
  distinct_from ws (λ i j d low high. apart (suc i) (suc j) d (omega arith) (omega arith)),
)

-- nothing has the number, so nothing goes
nothing_goes : (n : ℕ) (ws : List WaitingTicket) → All (λ w. nat_eq n w.number ≡ false) ws → without_number n ws ≡ ws
nothing_goes n [] none = refl
nothing_goes n (w ∷ ws) none =
    let other : w.number ≡ n → ⊥ = λ same. eqb-false n w.number (All-head (λ v. nat_eq n v.number ≡ false) w ws none) (sym same) in
    rw (ne_eqb w.number n other) (ap (λ l. w ∷ l) (nothing_goes n ws (All-tail (λ v. nat_eq n v.number ≡ false) w ws none)))

-- of filings apart, the first of which has the number, the others stay
others_stay : (w : WaitingTicket) (ws : List WaitingTicket) → IsDistinct one_number (w ∷ ws) → without_number w.number (w ∷ ws) ≡ ws
unfolding IsDistinct
others_stay w ws distinct =
    rw (eq-eqb w.number w.number refl) (nothing_goes w.number ws (All-from_recursion (λ v. one_number w v ≡ false) ws distinct.0))

-- t has come to queues, as qs, or has gone from them
more_filings : (less more : List (List Ticket)) (t : Ticket) → IsPermutation (t ∷ flat_map (λ q. q) less) (flat_map (λ q. q) more)
    → IsPermutation (filing_of t ∷ filings less) (filings more)
more_filings less more t put = IsPermutation-map filing_of (t ∷ flat_map (λ q. q) less) (flat_map (λ q. q) more) put

-- the log and the queues lose one ticket
same_without : (ws : List WaitingTicket) (qs less : List (List Ticket)) (given : ℕ) (t : Ticket) → SameTickets ws qs given → AreOwn less
    → IsPermutation (t ∷ flat_map (λ q. q) less) (flat_map (λ q. q) qs) → SameTickets (without_number t.number ws) less given
same_without ws qs less given t a own put =
    let gone : IsPermutation ws (filing_of t ∷ filings less) =
    IsPermutation-trans _ _ _ a.same (IsPermutation-sym _ _ (more_filings less qs t put)) in
    let distinct = IsDistinct-IsPermutation one_number flips ws (filing_of t ∷ filings less) gone (distinct_from ws a.apart) in
    let stay : WaitingTicket → Bool = λ w. not (nat_eq w.number t.number) in
    record {
      own = own;
      same = subst (IsPermutation (without_number t.number ws)) (others_stay (filing_of t) (filings less) distinct)
          (filter-permutation stay ws (filing_of t ∷ filings less) gone);
      apart = AllPairs-filter Apart stay ws a.apart;
      fresh = All-filter stay (λ w. w.number ≤ given) ws a.fresh;
    }

-- what a log says of a lab, of the tickets themselves
any_of_lab : (k : ℕ) (ts : List Ticket) → list_any (λ w. nat_eq w.lab k) (map filing_of ts) ≡ list_any (λ t. nat_eq t.lab k) ts
any_of_lab k [] = refl
any_of_lab k (t ∷ ts) = ap (λ b. nat_eq t.lab k || b) (any_of_lab k ts)

-- tickets of another lab
none_of_lab : (k a : ℕ) (ts : List Ticket) → All (λ t. t.lab ≡ a) ts → (a ≡ k → ⊥) → list_any (λ t. nat_eq t.lab k) ts ≡ false
none_of_lab k a ts own other = list_any_none (λ t. nat_eq t.lab k) ts (λ i d low. ne_eqb _ k (λ same. other (sym (own i d low) ∙ same)))

-- or with false changes nothing
or_nothing : (b : Bool) → (b || false) ≡ b
or_nothing true = refl
or_nothing false = refl

-- the queues behind the first are those of the labs from a + 1 on
behind_first : (a : ℕ) (q : List Ticket) (qs : List (List Ticket)) → ((j : ℕ) → All (λ t. t.lab ≡ a + j) (queue_of (q ∷ qs) j))
    → (j : ℕ) → All (λ t. t.lab ≡ a + 1 + j) (queue_of qs j)
behind_first a q qs own j =
    let on : a + suc j ≡ a + 1 + j = omega arith in
    subst (λ l. All (λ t. t.lab ≡ l) (queue_of qs j)) on (own (suc j))

-- the queues of the labs from a on, with no ticket of a lab below
none_below : (a k : ℕ) (qs : List (List Ticket)) → ((j : ℕ) → All (λ t. t.lab ≡ a + j) (queue_of qs j)) → k < a
    → list_any (λ t. nat_eq t.lab k) (flat_map (λ q. q) qs) ≡ false
none_below a k [] own low = refl
none_below a k (q ∷ qs) own low =
    let here = none_of_lab k (a + 0) q (own 0) (λ same. omega (arith, same)) in
    let rest = none_below (a + 1) k qs (behind_first a q qs own) (omega arith) in
    list_any-append (λ t. nat_eq t.lab k) q (flat_map (λ q. q) qs) ∙ rw (here, rest) refl

-- the queue of the lab itself
any_first : (k a : ℕ) (q : List Ticket) → All (λ t. t.lab ≡ a) q → a ≡ k → list_any (λ t. nat_eq t.lab k) q ≡ is_some (slice_get q 0)
any_first k a [] own is = refl
any_first k a (t ∷ ts) own is = rw (eq-eqb t.lab k (All-head (λ u. u.lab ≡ a) t ts own ∙ is)) refl

-- the queues of the labs from a on, of which that of lab k is the one with the index i
any_waits : (a i k : ℕ) (qs : List (List Ticket)) → ((j : ℕ) → All (λ t. t.lab ≡ a + j) (queue_of qs j)) → a + i ≡ k
    → list_any (λ t. nat_eq t.lab k) (flat_map (λ q. q) qs) ≡ has_ticket qs i
any_waits a i k [] own is = refl
any_waits a zero k (q ∷ qs) own is =
    let here = any_first k (a + 0) q (own 0) is in
    let rest = none_below (a + 1) k qs (behind_first a q qs own) (omega arith) in
    list_any-append (λ t. nat_eq t.lab k) q (flat_map (λ q. q) qs) ∙ rw (here, rest) (or_nothing _)
any_waits a (suc i) k (q ∷ qs) own is =
    let here = none_of_lab k (a + 0) q (own 0) (λ same. omega (arith, same, is)) in
    let rest = any_waits (a + 1) i k qs (behind_first a q qs own) (omega (arith, is)) in
    list_any-append (λ t. nat_eq t.lab k) q (flat_map (λ q. q) qs) ∙ rw here rest

-- empty queues, as a log says them
none_filed : filings none_waiting ≡ []
unfolding none_waiting
none_filed = refl

-- at first neither has a ticket
pub same_at_first : (qs : List (List Ticket)) (given : ℕ) → qs ≡ none_waiting → SameTickets [] qs given
same_at_first qs given none = record {
  own = own_none qs none;
  same = subst (IsPermutation []) (sym (ap filings none ∙ none_filed)) (IsPermutation-refl []);
  apart = λ i j d low high. absurd (omega (arith, high));
  fresh = All-nil (λ w. w.number ≤ given);
}

module _ {ws : List WaitingTicket} {qs : List (List Ticket)} {given : ℕ} (a : SameTickets ws qs given) where
  -- the queue of a lab, put back where it was
  put_back : (k : ℕ) → set qs k (queue_of qs k) ≡ qs
  put_back k = set-get_or qs k []

  -- the queue of a lab that exists, whatever the default
  is_queue : (k : ℕ) → k < length qs → queue_of qs k ≡ slice_index_or qs k (queue_of qs k)
  is_queue k within = get_or_default qs k [] (queue_of qs k) within

  -- a ticket comes, with the next number
  pub same_filed : (t : Ticket) → t.number ≡ given + 1 → t.lab < most_labs
      → SameTickets (filing_of t ∷ ws) (with_ticket qs t) t.number
  same_filed t next lab =
      let own = a.own in
      let within : t.lab < length qs = omega (arith, own.labs) in
      let q = queue_of qs t.lab in
      let more = inserted ticket_before t q in
      let put = flat_more qs t.lab t q more within (inserted_same ticket_before t q) in
      let put_all : IsPermutation (t ∷ flat_map (λ r. r) qs) (flat_map (λ r. r) (with_ticket qs t)) =
      subst (λ l. IsPermutation (t ∷ flat_map (λ r. r) l) (flat_map (λ r. r) (with_ticket qs t))) (put_back t.lab) put in
      record {
        own = own_put qs t.lab q own lab (is_queue t.lab within) t more true refl refl;
        same = IsPermutation-trans _ _ _ (IsPermutation-cons (filing_of t) ws (filings qs) a.same)
            (more_filings qs (with_ticket qs t) t put_all);
        apart = AllPairs-cons Apart (filing_of t) ws (λ k d low same. let old = a.fresh k d low in omega (arith, old, same)) a.apart;
        fresh = All-cons (λ w. w.number ≤ t.number) (filing_of t) ws (omega arith)
            (λ k d low. let old = a.fresh k d low in omega (arith, old));
      }

  -- the first ticket of a lab begins
  pub same_begun_ticket : (k : ℕ) (t : Ticket) → first_ticket qs k ≡ Some t → SameTickets (without_number t.number ws) (without_first qs k) given
  same_begun_ticket k t first =
      let own = a.own in
      let within = first_within qs k t first in
      let lab : k < most_labs = omega (arith, own.labs) in
      let q = queue_of qs k in
      let goes = subst (IsPermutation (t ∷ drop 1 q)) (first_first q t first) (IsPermutation-refl _) in
      let put = flat_more qs k t (drop 1 q) q within goes in
      same_without ws qs (without_first qs k) given t a
      (own_take qs k q own lab (is_queue k within) (drop 1 q) refl)
      (subst (λ l. IsPermutation (t ∷ flat_map (λ r. r) (without_first qs k)) (flat_map (λ r. r) l)) (put_back k) put)

  -- without the ticket that the queues found
  withdrawn : (n : ℕ) (t : Ticket) → waiting_ticket qs n ≡ Some t
      → SameTickets (without_number t.number ws) (set qs t.lab (without_numbered n (queue_of qs t.lab))) given
  withdrawn n t found =
      let own = a.own in
      let in_queue = found_in n qs t found in
      let of_lab : t.lab ≡ in_queue.0 =
      holds_of_numbered (λ u. u.lab ≡ in_queue.0) n (queue_of qs in_queue.0) t (own.own in_queue.0) in_queue.2 in
      let found_there : ticket_numbered n (queue_of qs t.lab) ≡ Some t = ap (λ k. ticket_numbered n (queue_of qs k)) of_lab ∙ in_queue.2 in
      let within : t.lab < length qs = omega (arith, of_lab, in_queue.1) in
      let lab : t.lab < most_labs = omega (arith, own.labs) in
      let q = queue_of qs t.lab in
      let less = without_numbered n q in
      let put = flat_more qs t.lab t less q within (numbered_first n q t found_there) in
      same_without ws qs (set qs t.lab less) given t a
      (own_withdraw qs t.lab q own lab (is_queue t.lab within) n less refl)
      (subst (λ l. IsPermutation (t ∷ flat_map (λ r. r) (set qs t.lab less)) (flat_map (λ r. r) l)) (put_back t.lab) put)

  -- the ticket with a number is withdrawn
  pub same_withdrawn : (n : ℕ) (t : Ticket) → waiting_ticket qs n ≡ Some t → SameTickets (without_number n ws) (without_ticket qs n) given
  same_withdrawn n t found =
      let number = number_found n (flat_map (λ q. q) qs) t found in
      let left = ap (λ o. option_map_or (λ u. set qs u.lab (without_numbered n (queue_of qs u.lab))) o qs) found in
      subst (λ l. SameTickets (without_number n ws) l given) (sym left)
      (subst (λ m. SameTickets (without_number m ws) (set qs t.lab (without_numbered n (queue_of qs t.lab))) given) number (withdrawn n t found))

  -- a ticket of the lab waits, as the log says it and as the gate keeps it
  pub same_waits : (k : ℕ) → list_any (λ w. nat_eq w.lab k) ws ≡ has_ticket qs k
  same_waits k =
      let own : (j : ℕ) → All (λ t. t.lab ≡ 0 + j) (queue_of qs j) = λ j.
      let on : j ≡ 0 + j = omega arith in
      subst (λ l. All (λ t. t.lab ≡ l) (queue_of qs j)) on (a.own.own j) in
      list_any-IsPermutation (λ w. nat_eq w.lab k) ws (filings qs) a.same
      ∙ any_of_lab k (flat_map (λ q. q) qs)
      ∙ any_waits 0 k k qs own (omega arith)
