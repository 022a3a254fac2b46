-- The standing lab that leads, and the smallest wake, also of the labs up to one.
use Rattle.std.proofs.Common.{◌≡◌, ℕ, zero, suc, ◌+◌, ◌<◌, ◌≤◌, min, true, false, not, ◌&&◌, ◌||◌, nat_eq, nat_lt, List, [], ◌∷◌, ◌++◌, length, slice_get, filter_map, Option, Some, None, refl, sym, ap, subst, ◌∙◌, arith, ⊎_elim, true≢false, append-nil, option_to_list}
use Rattle.std.specs.List.{range_with_len, reduce}
use Rattle.std.specs.Option.{option_map_or}
use Rattle.std.proofs.lemmas.Bool.{cases_Bool, cases_eq, cases_lt, and_parts, and_from, or_cases, or_left, or_right, not-true, not_from_false, ltb-true, lt-ltb, leb-true, le-leb, eqb-true, eq-eqb}
use Rattle.std.proofs.lemmas.Grind.{fold-append}
use Rattle.std.proofs.lemmas.Option.{same_Some, slice_get_past}
use Rattle.measures.specs.Limits.{most_labs, is_lab_number}
use Rattle.budget.specs.Meaning.{Meaning}
use Rattle.turns.specs.Turns.{Turns, Fair, is_ahead}
use Rattle.history.proofs.Lists.{find_within, find_only, find_none, all_pass, from_all, chosen_more}
use Rattle.history.specs.Gates.{GateState}
use Rattle.history.specs.Standing.{has_ticket, stands, is_ahead_of_others, leader, Leads, wake_of, smallest_wake, smallest_below}

module _ {T : Type 0} (turn : Turns T) (x : T) where
  -- a number ahead of another stands at a lower place, and both are lab numbers
  pub ahead_means : (a b : ℕ) → is_ahead turn x a b ≡ true → (a < most_labs) × (b < most_labs) × (turn.place x a < turn.place x b)
  ahead_means a b ahead =
      let parts = and_parts (is_lab_number a && is_lab_number b) (nat_lt (turn.place x a) (turn.place x b)) ahead in
      let labs = and_parts (is_lab_number a) (is_lab_number b) parts.0 in
      let low = leb-true a 63 labs.0 in
      let low_too = leb-true b 63 labs.1 in
      (omega (arith, low), omega (arith, low_too), ltb-true _ _ parts.1)

  ahead_from : (a b : ℕ) → a < most_labs → b < most_labs → turn.place x a < turn.place x b → is_ahead turn x a b ≡ true
  ahead_from a b a_low b_low lower =
      and_from (is_lab_number a && is_lab_number b) (nat_lt (turn.place x a) (turn.place x b))
      (and_from (is_lab_number a) (is_lab_number b) (le-leb a 63 (omega arith)) (le-leb b 63 (omega arith))) (lt-ltb _ _ lower)

  not_both_ahead : (a b : ℕ) → is_ahead turn x a b ≡ true → is_ahead turn x b a ≡ true → ⊥
  not_both_ahead a b one other =
      let first = (ahead_means a b one).2 in
      let second = (ahead_means b a other).2 in
      omega (arith, first, second)

  -- of two lab numbers one is ahead
  other_ahead : Fair turn → (a b : ℕ) → a < most_labs → b < most_labs → (a ≡ b → ⊥) → is_ahead turn x a b ≡ false → is_ahead turn x b a ≡ true
  other_ahead fair a b a_low b_low differ not_ahead =
      ⊎_elim
      (λ lower. absurd (true≢false (sym (ahead_from a b a_low b_low lower) ∙ not_ahead)))
      (λ not_lower. ⊎_elim
      (λ same. absurd (differ (fair.apart x a b a_low b_low same)))
      (λ apart. ahead_from b a b_low a_low (omega (arith, not_lower, apart)))
      (cases_eq (turn.place x a) (turn.place x b)))
      (cases_lt (turn.place x a) (turn.place x b))

-- the lesser of a wake and the least so far
abbrev lesser : Option ℕ → ℕ → ℕ
lesser None w = w
lesser (Some v) w = min v w

least_more : (ws : List ℕ) (w : ℕ) → reduce min (ws ++ w ∷ []) ≡ Some (lesser (reduce min ws) w)
least_more [] w = refl
least_more (v ∷ vs) w = ap Some (fold-append min v vs (w ∷ []))

module _ {R T : Type 0} (row : Meaning R) (g : GateState T) (rows : List R) where
  stands_within : (k : ℕ) → stands row g rows k ≡ true → k < length rows
  unfolding stands
  stands_within k stood =
      ⊎_elim
      (λ low. low)
      (λ past. let able = (and_parts (option_map_or row.able (slice_get rows k) false) (has_ticket g.waiting k) stood).0 in absurd (true≢false (sym able ∙ ap (λ o. option_map_or row.able o false) (slice_get_past rows k past))))
      (cases_lt k (length rows))

  -- the smallest wake, from no lab to all
  pub smallest_none : smallest_below row g rows 0 ≡ None
  unfolding smallest_below
  smallest_none = refl

  -- a lab without a wake changes nothing
  pub smallest_past : (n : ℕ) → wake_of row g rows n ≡ None → smallest_below row g rows (n + 1) ≡ smallest_below row g rows n
  unfolding smallest_below
  smallest_past n none = ap (reduce min) (chosen_more (wake_of row g rows) n ∙ rw none (append-nil _))

  smallest_more : (n w : ℕ) → wake_of row g rows n ≡ Some w → smallest_below row g rows (n + 1) ≡ Some (lesser (smallest_below row g rows n) w)
  unfolding smallest_below
  smallest_more n w some =
      let before = filter_map (wake_of row g rows) (range_with_len 0 n) in
      ap (reduce min) (chosen_more (wake_of row g rows) n ∙ ap (λ o. before ++ option_to_list o) some) ∙ least_more before w

  -- the first wake is the smallest one so far
  pub smallest_first : (n w : ℕ) → smallest_below row g rows n ≡ None → wake_of row g rows n ≡ Some w → Some w ≡ smallest_below row g rows (n + 1)
  smallest_first n w none some = sym (smallest_more n w some ∙ ap (λ o. Some (lesser o w)) none)

  -- and after it the lesser of two
  pub smallest_lesser : (n v w : ℕ) → smallest_below row g rows n ≡ Some v → wake_of row g rows n ≡ Some w
      → Some (min v w) ≡ smallest_below row g rows (n + 1)
  smallest_lesser n v w least some = sym (smallest_more n w some ∙ ap (λ o. Some (lesser o w)) least)

  pub smallest_at_end : (n : ℕ) → n ≤ length rows → length rows ≤ n → smallest_below row g rows n ≡ smallest_wake row g rows
  smallest_at_end n low high = let all : n ≡ length rows = omega arith in ap (smallest_below row g rows) all

  -- a lab that stands has an able row, and a ticket that waits
  pub stands_able : (k : ℕ) (x : R) → stands row g rows k ≡ true → slice_get rows k ≡ Some x → row.able x ≡ true
  unfolding stands
  stands_able k x stood there = sym (ap (λ o. option_map_or row.able o false) there) ∙ (and_parts (option_map_or row.able (slice_get rows k) false) (has_ticket g.waiting k) stood).0

  pub stands_waits : (k : ℕ) → stands row g rows k ≡ true → has_ticket g.waiting k ≡ true
  unfolding stands
  stands_waits k stood = (and_parts (option_map_or row.able (slice_get rows k) false) (has_ticket g.waiting k) stood).1

  -- and such a lab stands
  pub stands_from : (k : ℕ) (x : R) → slice_get rows k ≡ Some x → row.able x ≡ true → has_ticket g.waiting k ≡ true → stands row g rows k ≡ true
  unfolding stands
  stands_from k x there able waits = and_from (option_map_or row.able (slice_get rows k) false) (has_ticket g.waiting k) (ap (λ o. option_map_or row.able o false) there ∙ able) waits

module _ {R T : Type 0} (row : Meaning R) (turn : Turns T) (g : GateState T) (rows : List R) where
  abbrev Stands : ℕ → Type 0
  Stands j = stands row g rows j ≡ true

  abbrev Ahead : ℕ → ℕ → Type 0
  Ahead k j = is_ahead turn g.turns k j ≡ true

  -- a lab ahead of all others is ahead of each that stands
  ahead_of_each : (k j : ℕ) → is_ahead_of_others row turn g rows k ≡ true → Stands j → (j ≡ k → ⊥) → Ahead k j
  unfolding is_ahead_of_others
  ahead_of_each k j all stood other =
      let within = stands_within row g rows j stood in
      let one = all_pass (λ i. not (stands row g rows i) || nat_eq i k || is_ahead turn g.turns k i) 0 (length rows) j all (omega arith) (omega arith) in
      ⊎_elim
      (λ first. ⊎_elim
      (λ not_standing. absurd (true≢false (sym stood ∙ not-true _ not_standing)))
      (λ same. absurd (other (eqb-true j k same)))
      (or_cases _ _ first))
      (λ ahead. ahead)
      (or_cases _ _ one)

  ahead_from_each : (k : ℕ) → ((j : ℕ) → j < length rows → Stands j → (j ≡ k → ⊥) → Ahead k j) → is_ahead_of_others row turn g rows k ≡ true
  unfolding is_ahead_of_others
  ahead_from_each k each =
      from_all (λ i. not (stands row g rows i) || nat_eq i k || is_ahead turn g.turns k i) 0 (length rows)
      (λ j low high. ⊎_elim
      (λ same. or_left _ _ (or_right _ _ (eq-eqb j k same)))
      (λ other. ⊎_elim
      (λ stood. or_right _ _ (each j (omega arith) stood other))
      (λ not_standing. or_left _ _ (or_left _ _ (not_from_false _ not_standing)))
      (cases_Bool (stands row g rows j)))
      (cases_eq j k))

  -- the leader exists, stands, and is ahead of all others that stand
  pub leader_leads : (k : ℕ) → leader row turn g rows ≡ Some k
      → (k < length rows) × (stands row g rows k ≡ true) × ((j : ℕ) → stands row g rows j ≡ true → (j ≡ k → ⊥) → is_ahead turn g.turns k j ≡ true)
  unfolding leader
  leader_leads k leads =
      let found = find_within (λ j. stands row g rows j && is_ahead_of_others row turn g rows j) 0 (length rows) k leads in
      let parts = and_parts (stands row g rows k) (is_ahead_of_others row turn g rows k) found.2 in
      (omega (arith, found.1), parts.0, λ j. ahead_of_each k j parts.1)

  -- a lab that stands, and is ahead of all others that do, is the leader
  pub leader_is : (k : ℕ) → stands row g rows k ≡ true
      → ((j : ℕ) → j < length rows → stands row g rows j ≡ true → (j ≡ k → ⊥) → is_ahead turn g.turns k j ≡ true) → leader row turn g rows ≡ Some k
  unfolding leader
  leader_is k stood each =
      let within = stands_within row g rows k stood in
      find_only (λ j. stands row g rows j && is_ahead_of_others row turn g rows j) 0 (length rows) k (omega arith) (omega arith)
      (and_from _ _ stood (ahead_from_each k each))
      (λ j low high both. ⊎_elim
      (λ same. same)
      (λ other.
      let parts = and_parts (stands row g rows j) (is_ahead_of_others row turn g rows j) both in
      absurd (not_both_ahead turn g.turns k j (each j (omega arith) parts.0 other) (ahead_of_each j k parts.1 stood (λ same. other (sym same)))))
      (cases_eq j k))

  no_leader : ((j : ℕ) → j < length rows → stands row g rows j ≡ false) → leader row turn g rows ≡ None
  unfolding leader
  no_leader none = find_none (λ j. stands row g rows j && is_ahead_of_others row turn g rows j) 0 (length rows) (λ j low high. rw (none j (omega arith)) refl)

  pub leads_none : Leads row turn g rows 0 None
  leads_none = record {
    nobody = λ is j low. absurd (omega arith);
    within = λ k is. absurd (cc);
    stood = λ k is. absurd (cc);
    ahead = λ k j is. absurd (cc);
  }

  -- a lab that does not stand changes nothing
  pub leads_past : (n : ℕ) (best : Option ℕ) → Leads row turn g rows n best → stands row g rows n ≡ false → Leads row turn g rows (n + 1) best
  leads_past n best l idle = record {
    nobody = λ is j low. ⊎_elim
        (λ same. ap (stands row g rows) same ∙ idle)
        (λ other. l.nobody is j (omega arith))
        (cases_eq j n);
    within = λ k is. let below = l.within k is in omega arith;
    stood = l.stood;
    ahead = λ k j is low stood other. ⊎_elim
        (λ same. absurd (true≢false (sym stood ∙ ap (stands row g rows) same ∙ idle)))
        (λ lower. l.ahead k j is (omega arith) stood other)
        (cases_eq j n);
  }

  -- nor does one that is not ahead of the best
  pub leads_behind : Fair turn → (n b : ℕ) → n < most_labs → Leads row turn g rows n (Some b) → is_ahead turn g.turns n b ≡ false
      → Leads row turn g rows (n + 1) (Some b)
  leads_behind fair n b low l behind =
      let b_low = l.within b refl in
      let turned : Ahead b n = other_ahead turn g.turns fair n b low (omega arith) (λ same. omega arith) behind in
      record {
        nobody = λ is. absurd (cc);
        within = λ k is. let below = l.within k is in omega arith;
        stood = l.stood;
        ahead = λ k j is j_low stood other. ⊎_elim
            (λ same. subst (λ i. Ahead i j) (same_Some b k is) (subst (Ahead b) (sym same) turned))
            (λ lower. l.ahead k j is (omega arith) stood other)
            (cases_eq j n);
      }

  -- one that stands, and is ahead of those below it that stand, is the best from there on
  best_now : (n : ℕ) → Stands n → ((j : ℕ) → j < n → Stands j → Ahead n j) → Leads row turn g rows (n + 1) (Some n)
  best_now n stood ahead_of = record {
    nobody = λ is. absurd (cc);
    within = λ k is. let same = same_Some n k is in omega arith;
    stood = λ k is. subst Stands (same_Some n k is) stood;
    ahead = λ k j is j_low j_stood other.
        let same = same_Some n k is in
        let lower : j < n = ⊎_elim (λ e. absurd (other (e ∙ same))) (λ e. omega arith) (cases_eq j n) in
        subst (λ i. Ahead i j) same (ahead_of j lower j_stood);
  }

  -- so is the first that stands
  pub leads_first : (n : ℕ) → Leads row turn g rows n None → stands row g rows n ≡ true → Leads row turn g rows (n + 1) (Some n)
  leads_first n l stood = best_now n stood (λ j low j_stood. absurd (true≢false (sym j_stood ∙ l.nobody refl j low)))

  -- and one that stands ahead of the best
  pub leads_passed : (n b : ℕ) → Leads row turn g rows n (Some b) → stands row g rows n ≡ true → is_ahead turn g.turns n b ≡ true
      → Leads row turn g rows (n + 1) (Some n)
  leads_passed n b l stood passed =
      let first = ahead_means turn g.turns n b passed in
      best_now n stood (λ j low j_stood. ⊎_elim
      (λ same. subst (Ahead n) (sym same) passed)
      (λ other.
      let second = ahead_means turn g.turns b j (l.ahead b j refl low j_stood other) in
      let one = first.2 in
      let two = second.2 in
      ahead_from turn g.turns n j first.0 second.1 (omega (arith, one, two)))
      (cases_eq j b))

  -- the best of all labs leads
  leads_all : (best : Option ℕ) → Leads row turn g rows (length rows) best → best ≡ leader row turn g rows
  leads_all None l = sym (no_leader (l.nobody refl))
  leads_all (Some k) l = sym (leader_is k (l.stood k refl) (λ j. l.ahead k j refl))

  pub leads_at_end : (n : ℕ) (best : Option ℕ) → Leads row turn g rows n best → n ≤ length rows → length rows ≤ n → best ≡ leader row turn g rows
  leads_at_end n best l low high = let all : n ≡ length rows = omega arith in leads_all best (subst (λ i. Leads row turn g rows i best) all l)

  -- which lab is the best after one more
  next_best : Fair turn → (n : ℕ) (best : Option ℕ) → n < most_labs → Leads row turn g rows n best
      → (next : Option ℕ) × Leads row turn g rows (n + 1) next
  next_best fair n None low l =
      ⊎_elim (λ stood. (Some n, leads_first n l stood)) (λ idle. (None, leads_past n None l idle)) (cases_Bool (stands row g rows n))
  next_best fair n (Some b) low l =
      ⊎_elim
      (λ stood. ⊎_elim
      (λ passed. (Some n, leads_passed n b l stood passed))
      (λ behind. (Some b, leads_behind fair n b low l behind))
      (cases_Bool (is_ahead turn g.turns n b)))
      (λ idle. (Some b, leads_past n (Some b) l idle))
      (cases_Bool (stands row g rows n))

  best_below : Fair turn → (n : ℕ) → n ≤ most_labs → (best : Option ℕ) × Leads row turn g rows n best
  best_below fair zero low = (None, leads_none)
  best_below fair (suc n) low =
      let so_far = best_below fair n (omega arith) in
      let more = next_best fair n so_far.0 (omega arith) so_far.1 in
      let on : n + 1 ≡ suc n = omega arith in
      (more.0, subst (λ i. Leads row turn g rows i more.0) on more.1)

  some_is_best : (best : Option ℕ) → Leads row turn g rows (length rows) best → (j : ℕ) → Stands j → (k : ℕ) × (leader row turn g rows ≡ Some k)
  some_is_best None l j stood = absurd (true≢false (sym stood ∙ l.nobody refl j (stands_within row g rows j stood)))
  some_is_best (Some k) l j stood = (k, sym (leads_all (Some k) l))

  -- where a lab stands, one leads
  pub some_leads : Fair turn → length rows ≤ most_labs → (j : ℕ) → stands row g rows j ≡ true → (k : ℕ) × (leader row turn g rows ≡ Some k)
  some_leads fair few j stood = let best = best_below fair (length rows) few in some_is_best best.0 best.1 j stood
