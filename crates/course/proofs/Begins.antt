-- What the answer of a begin says of later ticks.
use Rattle.std.proofs.Common.{◌≡◌, ℕ, zero, suc, ◌+◌, ◌-◌, ◌<◌, ◌≤◌, min, Bool, true, false, not, if◌then◌else◌, List, length, slice_get, is_some, Ok, Err, Result, option_map, option_and_then, Option, Some, None, refl, sym, ap, subst, ◌∙◌, arith, ⊎_elim, true≢false}
use Rattle.std.proofs.lemmas.Bool.{cases_eq, cases_lt, eq-eqb, eqb-true, le-ltb, le-leb, not-false}
use Rattle.std.proofs.lemmas.Option.{none-some, same_Some}
use Rattle.measures.specs.Limits.{last, most_labs}
use Rattle.measures.specs.declared.refusal.Refusal.{Refusal}
use Rattle.budget.specs.Meaning.{Meaning, Sentences}
use Rattle.turns.specs.Turns.{Turns, Fair}
use Rattle.waiting.specs.declared.ticket.Ticket.{Ticket}
use Rattle.history.specs.declared.import.Import.{Import}
use Rattle.history.specs.declared.turn.Turn.{Turn}
use Rattle.history.specs.declared.turn.Turn.TheVariants.{Began, Wait, Nothing}
use Rattle.history.specs.Gates.{GateState, Moment, rested_one, rested_to}
use Rattle.history.specs.Standing.{first_ticket, has_ticket, leader, wake_of, smallest_below, smallest_wake, next_import, turn_of, whose_turn}
use Rattle.history.specs.Calls.{is_other_table, at_tick, begin_checks, begins}
use Rattle.history.specs.Histories.{Begin}
use Rattle.history.specs.Guaranteed.{Starts}
use Rattle.history.proofs.Lists.{element}
use Rattle.history.proofs.Resting.{length-rest_others, rest_at}
use Rattle.history.proofs.Leading.{smallest_none, smallest_past, smallest_first, smallest_lesser, stands_able, stands_waits, stands_from, leader_leads, some_leads}
use Rattle.history.proofs.Effects.{Passed, passed_to, none_there}
use Rattle.history.proofs.Keeping.{none_told, same_begun}
use Rattle.course.specs.Course.{Stage, begun}
use Rattle.course.proofs.Later.{BeginDoes, was_denied, none_began, run_began, begin_does}
use Rattle.course.proofs.Quiet.{CannotBegin}

-- what the test of an option says
some_there : {A : Type 0} (o : Option A) → is_some o ≡ true → (a : A) × (o ≡ Some a)
some_there None there = absurd (true≢false (sym there))
some_there (Some a) there = (a, refl)

module _ {R T : Type 0} (row : Meaning R) (g : GateState T) (rows : List R) where
  -- lab k has a row and a ticket, and this wake
  abbrev HasWake : ℕ → ℕ → Type 0
  HasWake k w = (x : R) × (slice_get rows k ≡ Some x) × (has_ticket g.waiting k ≡ true) × (row.wake x ≡ w)

  wake_from : (k : ℕ) (x : R) → slice_get rows k ≡ Some x → has_ticket g.waiting k ≡ true → wake_of row g rows k ≡ Some (row.wake x)
  wake_from k x there waits = rw waits (ap (option_map row.wake) there)

  wake_means : (k w : ℕ) → wake_of row g rows k ≡ Some w → HasWake k w
  wake_means k w e = by_parts (has_ticket g.waiting k) (slice_get rows k) refl refl e
    where
      by_parts : (waits : Bool) (o : Option R) → has_ticket g.waiting k ≡ waits → slice_get rows k ≡ o
          → (if waits then option_map row.wake o else None) ≡ Some w → HasWake k w
      by_parts false o waits there e = absurd (let z : ◌≡◌ {A = ℕ} 0 1 = cc in omega arith)
      by_parts true None waits there e = absurd (let z : ◌≡◌ {A = ℕ} 0 1 = cc in omega arith)
      by_parts true (Some x) waits there e = (x, there, waits, same_Some (row.wake x) w e)

  -- the smallest wake so far is at most this one
  abbrev SmallestWithin : ℕ → ℕ → Type 0
  SmallestWithin n w = (v : ℕ) × (smallest_below row g rows n ≡ Some v) × (v ≤ w)

  with_last : (n w : ℕ) (least : Option ℕ) → smallest_below row g rows n ≡ least → wake_of row g rows n ≡ Some w → SmallestWithin (n + 1) w
  with_last n w None is some = (w, sym (smallest_first row g rows n w is some), omega arith)
  with_last n w (Some v) is some = (min v w, sym (smallest_lesser row g rows n v w is some), omega arith)

  with_more : (n v : ℕ) (wake : Option ℕ) → smallest_below row g rows n ≡ Some v → wake_of row g rows n ≡ wake → SmallestWithin (n + 1) v
  with_more n v None is none = (v, smallest_past row g rows n none ∙ is, omega arith)
  with_more n v (Some w) is some = (min v w, sym (smallest_lesser row g rows n v w is some), omega arith)

  smallest_within : (n j w : ℕ) → j < n → wake_of row g rows j ≡ Some w → SmallestWithin n w
  smallest_within zero j w low some = absurd (omega arith)
  smallest_within (suc n) j w low some =
      let on : n + 1 ≡ suc n = omega arith in
      subst (λ i. SmallestWithin i w) on
      (⊎_elim
      (λ same. with_last n w (smallest_below row g rows n) refl (ap (wake_of row g rows) (sym same) ∙ some))
      (λ other.
      let (v, least, within) = smallest_within n j w (omega arith) some in
      let (u, still, below) = with_more n v (wake_of row g rows n) least refl in
      (u, still, omega arith))
      (cases_eq j n))

  -- a lab below n has this wake: the smallest one is that of a lab
  abbrev Among : ℕ → ℕ → Type 0
  Among n v = (j : ℕ) × (wake_of row g rows j ≡ Some v)

  smallest_among : (n v : ℕ) → smallest_below row g rows n ≡ Some v → Among n v
  smallest_among zero v is = absurd (none-some v (sym (smallest_none row g rows) ∙ is))
  smallest_among (suc n) v is =
      let on : suc n ≡ n + 1 = omega arith in
      last_or_before (wake_of row g rows n) (smallest_below row g rows n) refl refl (smallest_among n) (ap (smallest_below row g rows) (sym on) ∙ is)
    where
      last_or_before : (wake least : Option ℕ) → wake_of row g rows n ≡ wake → smallest_below row g rows n ≡ least
          → ((w : ℕ) → smallest_below row g rows n ≡ Some w → Among n w) → smallest_below row g rows (n + 1) ≡ Some v → Among (suc n) v
      last_or_before None least none so_far before is = before v (sym (smallest_past row g rows n none) ∙ is)
      last_or_before (Some w) None some so_far before is = (n, some ∙ smallest_first row g rows n w so_far some ∙ is)
      last_or_before (Some w) (Some u) some so_far before is =
          let least : min u w ≡ v = same_Some (min u w) v (smallest_lesser row g rows n u w so_far some ∙ is) in
          ⊎_elim
          (λ lower. let same : u ≡ v = omega arith in before v (so_far ∙ ap Some same))
          (λ not_lower. let same : w ≡ v = omega arith in (n, some ∙ ap Some same))
          (cases_lt u w)

  -- if nothing can begin, no lab leads, and each wake is above 0
  module _ (turn : Turns T) (next : next_import row turn g rows ≡ None) where
    no_leader : (k : ℕ) → leader row turn g rows ≡ Some k → ⊥
    no_leader k leads =
        let stood = (leader_leads row turn g rows k leads).1 in
        let (ticket, first) = some_there (first_ticket g.waiting k) (stands_waits row g rows k stood) in
        let found : next_import row turn g rows ≡ Some (k, ticket)
        = ap (option_and_then {U = ℕ × Ticket} (λ i. option_map {U = ℕ × Ticket} (λ u. (i, u)) (first_ticket g.waiting i))) leads
        ∙ ap (option_map {U = ℕ × Ticket} (λ u. (k, u))) first in
        none-some (k, ticket) (sym next ∙ found)

    wake_above : Sentences row → Fair turn → length rows ≤ most_labs → (j v : ℕ) → wake_of row g rows j ≡ Some v → v ≡ 0 → ⊥
    wake_above sentences fair few j v some none =
        let (x, there, waits, wake) = wake_means j v some in
        let able = sentences.awake x ∙ eq-eqb (row.wake x) 0 (wake ∙ none) in
        let (k, leads) = some_leads row turn g rows fair few j (stands_from row g rows j x there able waits) in
        no_leader k leads

-- where an import begins next, some lab leads
leads_next : {T : Type 0} (first : ℕ → Option T) (o : Option ℕ) (k : ℕ) (ticket : T)
    → option_and_then {U = ℕ × T} (λ i. option_map {U = ℕ × T} (λ u. (i, u)) (first i)) o ≡ Some (k, ticket) → (j : ℕ) × (o ≡ Some j)
leads_next first None k ticket e = absurd (none-some (k, ticket) e)
leads_next first (Some j) k ticket e = (j, refl)

module _ {R T : Type 0} (row : Meaning R) (turn : Turns T) where
  -- an import begins if a begin is called at tick u
  abbrev BeginsAt : Moment R T → ℕ → Type 0
  BeginsAt s u = (k : ℕ) × (ticket : Ticket) × Passed (begin_checks s.gate s.rows u)
      × (next_import row turn (at_tick s.gate u) (rested_to row s.gate s.rows u) ≡ Some (k, ticket))

  -- so it is where the begin starts one
  begins_at : (s : Moment R T) (u lab : ℕ) → {answer : Result Turn Refusal} {left : Moment R T} → BeginDoes row turn s u answer left
      → Starts lab (Begin u answer) → BeginsAt s u
  begins_at s u lab (was_denied r) (t, n, c, e) = absurd (let z : ◌≡◌ {A = ℕ} 0 1 = cc in omega arith)
  begins_at s u lab (none_began passed none) (t, n, c, e) = absurd (none_told u _ lab n c (same_begun u t _ _ e).1)
  begins_at s u lab (run_began k ticket passed next) (t, n, c, e) = (k, ticket, passed, next)

  cannot_from : (s : Stage R T) (u : ℕ) → (BeginsAt s.moment u → ⊥) → CannotBegin row turn s u
  cannot_from s u not lab starts = not (begins_at s.moment u lab (begin_does row turn s.moment u) starts)

  -- no begin starts an import while one runs
  pub running_cannot : (s : Stage R T) (i : Import) → s.moment.gate.running ≡ Some i → (u : ℕ) → CannotBegin row turn s u
  running_cannot s i held u = cannot_from s u (λ at.
      let (k, ticket, (table, (time, (free, rest))), next) = at in
      true≢false (sym (ap is_some held) ∙ free))

  -- a begin that is granted finds a free lock
  pub granted_free : (s : Stage R T) (t : ℕ) (told : Turn) → (begins row turn s.moment.gate s.moment.rows t).answer ≡ Ok told
      → s.moment.gate.running ≡ None
  granted_free s t told = free (begin_does row turn s.moment t)
    where
      free : {answer : Result Turn Refusal} {left : Moment R T} → BeginDoes row turn s.moment t answer left → answer ≡ Ok told
          → s.moment.gate.running ≡ None
      free (was_denied r) e = absurd (let z : ◌≡◌ {A = ℕ} 0 1 = cc in omega arith)
      free (none_began (table, (time, (held, rest))) none) e = none_there s.moment.gate.running held
      free (run_began k ticket (table, (time, (held, rest))) next) e = none_there s.moment.gate.running held

  -- a begin that starts an import leaves it running: it began at this tick, and lasts as the answer says
  pub began_runs : (s : Stage R T) (t k n c : ℕ) → (begins row turn s.moment.gate s.moment.rows t).answer ≡ Ok (Began k n c)
      → (i : Import) × ((begun row turn t s).moment.gate.running ≡ Some i) × (i.began ≡ t) × (i.length ≡ c)
  began_runs s t k n c = runs (begin_does row turn s.moment t)
    where
      runs : {answer : Result Turn Refusal} {left : Moment R T} → BeginDoes row turn s.moment t answer left → answer ≡ Ok (Began k n c)
          → (i : Import) × (left.gate.running ≡ Some i) × (i.began ≡ t) × (i.length ≡ c)
      runs (was_denied r) e = absurd (let z : ◌≡◌ {A = ℕ} 0 1 = cc in omega arith)
      runs (none_began passed none) e = absurd (none_told t _ k n c (same_begun t t _ _ (ap (Begin t) e)).1)
      runs (run_began j ticket passed next) e = (_, refl, refl, cc)

  -- a begin is granted that comes in time, on the gate's own table, while the lock is free
  granted_in_time : (s : Moment R T) (t : ℕ) → s.gate.clock ≤ t → t ≤ last → is_other_table s.gate s.rows ≡ false → is_some s.gate.running ≡ false
      → (begins row turn s.gate s.rows t).answer ≡ Ok (whose_turn row turn (at_tick s.gate t) (rested_to row s.gate s.rows t))
  granted_in_time s t low high table free = rw (table, le-ltb t s.gate.clock low, le-leb t last high, free) refl

  -- a begin that was denied in time leaves what it found, and no later one starts an import
  pub denied_begin : (s : Stage R T) (t : ℕ) (r : Refusal) → s.moment.gate.clock ≤ t → t ≤ last
      → (begins row turn s.moment.gate s.moment.rows t).answer ≡ Err r
      → (begun row turn t s ≡ s) × ((u : ℕ) → t < u → CannotBegin row turn (begun row turn t s) u)
  denied_begin s t r low high denied =
      let same : begun row turn t s ≡ s = ap (λ m. record s { moment = m }) (left_so (begin_does row turn s.moment t) denied) in (
        same,
        λ u later. subst (λ v. CannotBegin row turn v u) (sym same) (cannot_from s u (λ at.
            let (k, ticket, (table, (time, (free, rest))), next) = at in
            let z : Ok (whose_turn row turn (at_tick s.moment.gate t) (rested_to row s.moment.gate s.moment.rows t)) ≡ Err r
            = sym (granted_in_time s.moment t low high table free) ∙ denied in
            absurd (let y : ◌≡◌ {A = ℕ} 0 1 = cc in omega arith))),
      )
    where
      left_so : {answer : Result Turn Refusal} {left : Moment R T} → BeginDoes row turn s.moment t answer left → answer ≡ Err r → left ≡ s.moment
      left_so (was_denied q) e = refl
      left_so (none_began passed none) e = absurd (let z : ◌≡◌ {A = ℕ} 0 1 = cc in omega arith)
      left_so (run_began k ticket passed next) e = absurd (let z : ◌≡◌ {A = ℕ} 0 1 = cc in omega arith)

-- which smallest wake an answer tells of
told_wait : (t w : ℕ) (o : Option ℕ) → turn_of t None o ≡ Wait w → (v : ℕ) × (o ≡ Some v) × (t + v ≡ w)
told_wait t w None e = absurd (let z : ◌≡◌ {A = ℕ} 0 1 = cc in omega arith)
told_wait t w (Some v) e = (v, refl, cc)

told_nothing : (t : ℕ) (o : Option ℕ) → turn_of t None o ≡ Nothing → o ≡ None
told_nothing t None e = refl
told_nothing t (Some v) e = absurd (let z : ◌≡◌ {A = ℕ} 0 1 = cc in omega arith)

module _ {R T : Type 0} {row : Meaning R} (sentences : Sentences row) (turn : Turns T) where
  -- where an import begins at tick u, the smallest wake is over by then
  smallest_before : (s : Moment R T) (u : ℕ) → s.gate.running ≡ None → BeginsAt row turn s u
      → (v : ℕ) × (smallest_wake row s.gate s.rows ≡ Some v) × (s.gate.clock + v ≤ u)
  smallest_before s u free (k, ticket, (table, (time, rest)), next) =
      let g = at_tick s.gate u in
      let d = u - s.gate.clock in
      let rows = rested_to row s.gate s.rows u in
      let low : s.gate.clock ≤ u = grind (arith, time) in
      let high : u ≤ last = grind (arith, time) in
      let (j, leads) = leads_next (first_ticket s.gate.waiting) (leader row turn g rows) k ticket next in
      let (within, stood, ahead) = leader_leads row turn g rows j leads in
      let j_low : j < length s.rows = omega (arith, within, length-rest_others row s.gate.running d 0 s.rows) in
      let (x, there) = element s.rows j j_low in
      let y = row.rested x d in
      let rested : slice_get rows j ≡ Some y = rest_at row s.gate.running d j s.rows x there ∙ ap (λ o. Some (rested_one row o d j x)) free in
      let able = stands_able row g rows j y stood rested in
      let awake = eqb-true (row.wake y) 0 (sym (sentences.awake y) ∙ able) in
      let passes : row.wake x ≤ d = omega (arith, awake, sentences.rest_wake x d (omega arith)) in
      let (v, least, below) = smallest_within row s.gate s.rows (length s.rows) j (row.wake x) j_low
      (wake_from row s.gate s.rows j x there (stands_waits row g rows j stood)) in
      (v, least, omega arith)

  -- After the answer to wait until tick w the lock is free, tick w is later, and no begin before it starts an import.
  pub waits_until : Fair turn → (s : Stage R T) → s.moment.gate.labs ≤ most_labs → (t w : ℕ)
      → (begins row turn s.moment.gate s.moment.rows t).answer ≡ Ok (Wait w)
      → ((begun row turn t s).moment.gate.running ≡ None) × (t < w) × ((u : ℕ) → t < u → u < w → CannotBegin row turn (begun row turn t s) u)
  waits_until fair s few t w told =
      let (free, later, before) = waits (begin_does row turn s.moment t) told in
      (free, later, λ u above below. cannot_from row turn (begun row turn t s) u (before u below))
    where
      waits : {answer : Result Turn Refusal} {left : Moment R T} → BeginDoes row turn s.moment t answer left → answer ≡ Ok (Wait w)
          → (left.gate.running ≡ None) × (t < w) × ((u : ℕ) → u < w → BeginsAt row turn left u → ⊥)
      waits (was_denied r) e = absurd (let z : ◌≡◌ {A = ℕ} 0 1 = cc in omega arith)
      waits (run_began k ticket passed next) e = absurd (let z : ◌≡◌ {A = ℕ} 0 1 = cc in omega arith)
      waits (none_began passed none) e =
          let (table, (time, (held, rest))) = passed in
          let free = none_there s.moment.gate.running held in
          let g = at_tick s.moment.gate t in
          let rows = rested_to row s.moment.gate s.moment.rows t in
          let (v, least, at) = told_wait t w (smallest_wake row g rows) cc in
          let (j, wake) = smallest_among row g rows (length rows) v least in
          let of_labs = eqb-true (length s.moment.rows) s.moment.gate.labs (not-false _ table) in
          let as_many = length-rest_others row s.moment.gate.running (t - s.moment.gate.clock) 0 s.moment.rows in
          let few_rows : length rows ≤ most_labs = omega (arith, few, of_labs, as_many) in
          let above : v ≡ 0 → ⊥ = wake_above row g rows turn none sentences fair few_rows j v wake in (
            free,
            omega arith,
            λ u below begins.
                let (y, is, low) = smallest_before (passed_to row s.moment t) u free begins in
                let same : v ≡ y = same_Some v y (sym least ∙ is) in
                omega arith,
          )

  -- after the answer that nothing waits the lock is free, and no later begin starts an import
  pub nothing_waits : (s : Stage R T) (t : ℕ) → (begins row turn s.moment.gate s.moment.rows t).answer ≡ Ok Nothing
      → ((begun row turn t s).moment.gate.running ≡ None) × ((u : ℕ) → t < u → CannotBegin row turn (begun row turn t s) u)
  nothing_waits s t told =
      let (free, never) = none_waits (begin_does row turn s.moment t) told in
      (free, λ u later. cannot_from row turn (begun row turn t s) u (never u))
    where
      none_waits : {answer : Result Turn Refusal} {left : Moment R T} → BeginDoes row turn s.moment t answer left → answer ≡ Ok Nothing
          → (left.gate.running ≡ None) × ((u : ℕ) → BeginsAt row turn left u → ⊥)
      none_waits (was_denied r) e = absurd (let z : ◌≡◌ {A = ℕ} 0 1 = cc in omega arith)
      none_waits (run_began k ticket passed next) e = absurd (let z : ◌≡◌ {A = ℕ} 0 1 = cc in omega arith)
      none_waits (none_began passed none) e =
          let (table, (time, (held, rest))) = passed in
          let free = none_there s.moment.gate.running held in
          let none_least = told_nothing t (smallest_wake row (at_tick s.moment.gate t) (rested_to row s.moment.gate s.moment.rows t)) cc in (
            free,
            λ u begins.
                let (y, is, low) = smallest_before (passed_to row s.moment t) u free begins in
                none-some y (sym none_least ∙ is),
          )
