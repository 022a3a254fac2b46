-- A gate keeps what is guaranteed, whatever happens to it.
use Rattle.std.proofs.Common.{◌≡◌, ℕ, ◌+◌, ◌-◌, ◌<◌, ◌≤◌, true, false, nat_eq, List, [], ◌∷◌, ◌++◌, length, map, slice_get, is_some, Ok, option_map, option_and_then, Option, Some, None, All, refl, sym, ap, subst, ◌∙◌, arith, ⊎_elim, true≢false, append_assoc}
use Rattle.std.proofs.lemmas.Bool.{cases_eq, eq-eqb, ne_eqb}
use Rattle.std.proofs.lemmas.List.{length-map}
use Rattle.std.proofs.lemmas.List.Elements.{All-cons}
use Rattle.std.proofs.lemmas.Option.{slice_get_within}
use Rattle.measures.specs.Limits.{last, most_labs}
use Rattle.budget.specs.Meaning.{Meaning, Sentences}
use Rattle.turns.specs.Turns.{Turns, Fair, is_ahead, after_served}
use Rattle.waiting.specs.Queues.{none_waiting}
use Rattle.waiting.specs.declared.ticket.Ticket.{Ticket}
use Rattle.history.specs.declared.import.Import.{Import}
use Rattle.history.specs.declared.turn.Turn.{Turn}
use Rattle.history.specs.declared.turn.Turn.TheVariants.{Began}
use Rattle.history.specs.Gates.{GateState, Moment, is_running, rested_to}
use Rattle.history.specs.Standing.{first_ticket, has_ticket, stands, leader, next_import, turn_of}
use Rattle.history.specs.Calls.{at_tick}
use Rattle.history.specs.Histories.{Event, Begin, End, History, opened, next}
use Rattle.history.specs.Logs.{Log, closed, log, noted, runs_of, waits}
use Rattle.history.specs.Guaranteed.{rest_over, HasRested, started, Starts, KeepsWaiting, Kept, Guarantee}
use Rattle.history.proofs.Ledgers.{KeepsLicence, running_bound, run_up_to}
use Rattle.history.proofs.Filings.{same_waits}
use Rattle.history.proofs.Leading.{ahead_means, leader_leads, some_leads, stands_from, stands_waits}
use Rattle.history.proofs.Overtaking.{Behind, after_behind, first_behind}
use Rattle.history.proofs.Curators.{curators}
use Rattle.history.proofs.Lists.{element}
use Rattle.history.proofs.Resting.{length-rest_others}
use Rattle.history.proofs.Effects.{is_granted, not_granted, Effect, stays, ticket_comes, ticket_leaves, none_begins, run_begins, run_ends, Denied, open_denied, file_denied, withdraw_denied, begin_denied, end_denied, effect}
use Rattle.history.proofs.Tracing.{Traced, traced_opened, traced_on, ends_exactly}
use Rattle.history.proofs.Agreement.{Agrees, Opened, hold_of, agrees_passed, agrees_opened, agrees_on}

module _ {R T : Type 0} {m : Meaning R} (sentences : Sentences m) {start : List R} {b : Log} {s : Moment R T} (a : Agrees m start b s) where
  -- a lab keeps its licence, with an unfinished run up to the clock
  with_hold : (running : Option Import) → s.gate.running ≡ running → (k from n : ℕ) (x0 x : R) → slice_get start k ≡ Some x0
      → slice_get s.rows k ≡ Some x → from + n ≤ s.gate.clock
      → KeepsLicence m x0 (runs_of k (closed s.gate.clock (option_map hold_of running) b.over)) from n
  with_hold None free k from n x0 x began there up_to = (a.resting k x0 x began there (rw free refl)).bound from n up_to
  with_hold (Some i) held k from n x0 x began there up_to =
      ⊎_elim
      (λ same.
      let yes : nat_eq i.lab k ≡ true = eq-eqb i.lab k (sym same) in
      let (ledger, able, since) = a.running i x0 x (ap (slice_get start) (sym same) ∙ began) (ap (slice_get s.rows) (sym same) ∙ there) held in
      let bound = running_bound sentences ledger i.lab able s.gate.clock since from n up_to in
      rw yes (subst (λ j. KeepsLicence m x0 (run_up_to i.lab i.began s.gate.clock ∷ runs_of j b.over) from n) (sym same) bound))
      (λ other.
      let no : nat_eq i.lab k ≡ false = ne_eqb i.lab k (λ e. other (sym e)) in
      rw no ((a.resting k x0 x began there (rw (held, no) refl)).bound from n up_to))
      (cases_eq k i.lab)

  -- the lock time of each lab is bounded
  pub lab_keeps : (k from n : ℕ) (x0 : R) → slice_get start k ≡ Some x0 → from + n ≤ b.clock
      → KeepsLicence m x0 (runs_of k (closed b.clock b.hold b.over)) from n
  lab_keeps k from n x0 began up_to =
      let (x, there) = element s.rows k (omega (arith, slice_get_within start k x0 began, a.as_many)) in
      rw (a.clock, a.holds) (with_hold s.gate.running refl k from n x0 x began there (omega (arith, up_to, a.clock)))

  held_labs : (running : Option Import) → s.gate.running ≡ running
      → All (λ r. r.lab < length start) (closed s.gate.clock (option_map hold_of running) b.over)
  held_labs None free = a.of_labs
  held_labs (Some i) held =
      All-cons (λ r. r.lab < length start) (run_up_to i.lab i.began s.gate.clock) b.over (omega (arith, a.holder i held, a.as_many)) a.of_labs

  -- every run is one of the labs'
  pub labs_of_runs : All (λ r. r.lab < length start) (closed b.clock b.hold b.over)
  labs_of_runs = rw (a.clock, a.holds) (held_labs s.gate.running refl)

no_ticket : (j : ℕ) (o : Option Ticket) → is_some o ≡ true → option_map {U = ℕ × Ticket} (λ ticket. (j, ticket)) o ≡ None → ⊥
no_ticket j None waits gone = true≢false (sym waits)
no_ticket j (Some u) waits gone = absurd (let z : ◌≡◌ {A = ℕ} 0 1 = cc in omega arith)

-- a denied call begins nothing
pub denied_none : {e : Event} (t : ℕ) (turn : Turn) → Denied e → e ≡ Begin t (Ok turn) → ⊥
denied_none t turn denied e = true≢false (sym (ap is_granted e) ∙ not_granted denied)

-- nor does a begin with nothing to begin
pub none_told : (t : ℕ) (wake : Option ℕ) (k n l : ℕ) → turn_of t None wake ≡ Began k n l → ⊥
none_told t None k n l e = absurd (let z : ◌≡◌ {A = ℕ} 0 1 = cc in omega arith)
none_told t (Some w) k n l e = absurd (let z : ◌≡◌ {A = ℕ} 0 1 = cc in omega arith)

-- two begins that are one
pub same_begun : (t u : ℕ) (x y : Turn) → Begin t (Ok x) ≡ Begin u (Ok y) → (t ≡ u) × (x ≡ y)
same_begun t u x y e = (cc, cc)

same_began : (k n l j o p : ℕ) → Began k n l ≡ Began j o p → k ≡ j
same_began k n l j o p e = cc

module _ {R T : Type 0} {m : Meaning R} (sentences : Sentences m) (turn : Turns T) (fair : Fair turn) where
  -- where a lab stands one leads, and its first ticket is there
  next_there : (s : Moment R T) (t k : ℕ) → length (rested_to m s.gate s.rows t) ≤ most_labs
      → stands m (at_tick s.gate t) (rested_to m s.gate s.rows t) k ≡ true
      → next_import m turn (at_tick s.gate t) (rested_to m s.gate s.rows t) ≡ None → ⊥
  next_there s t k few stood none =
      let g = at_tick s.gate t in
      let rows = rested_to m s.gate s.rows t in
      let (j, leads) = some_leads m turn g rows fair few k stood in
      let (within, j_stood, ahead) = leader_leads m turn g rows j leads in
      let waits : is_some (first_ticket s.gate.waiting j) ≡ true = stands_waits m g rows j j_stood in
      let gone : option_map {U = ℕ × Ticket} (λ ticket. (j, ticket)) (first_ticket s.gate.waiting j) ≡ None
      = sym (ap (option_and_then {U = ℕ × Ticket} (λ i. option_map {U = ℕ × Ticket} (λ ticket. (i, ticket)) (first_ticket s.gate.waiting i))) leads) ∙ none in
      no_ticket j (first_ticket s.gate.waiting j) waits gone

  -- What is known of a lab once another one was served: it is ahead of that one, and can begin as soon as the lock is free.
  pub record Waited (lab other : ℕ) (x0 : R) (b : Log) (s : Moment R T) : Type 0 where
    pub behind : Behind turn s.gate.turns lab other
    pub low : other < most_labs
    pub over : rest_over (m.rate x0) (m.threshold x0) (runs_of lab b.over) ≤ s.gate.clock
    pub not_holding : is_running s.gate.running lab ≡ false

  module _ {start : List R} {b : Log} {s : Moment R T} (a : Agrees m start b s) (lab : ℕ) (x0 : R) (began : slice_get start lab ≡ Some x0) (waiting : has_ticket s.gate.waiting lab ≡ true) where
    -- a lab that has rested by tick t and waits stands then, if it does not hold the lock
    stands_rested : (t : ℕ) → s.gate.clock ≤ t → t ≤ last → rest_over (m.rate x0) (m.threshold x0) (runs_of lab b.over) ≤ t
        → is_running s.gate.running lab ≡ false
        → stands m (at_tick s.gate t) (rested_to m s.gate s.rows t) lab ≡ true
    stands_rested t low high over free =
        let later = agrees_passed sentences a t low high in
        let rows = rested_to m s.gate s.rows t in
        let (x, there) = element rows lab (omega (arith, slice_get_within start lab x0 began, later.as_many)) in
        let ledger = later.resting lab x0 x began there free in
        let none : m.wake x ≡ 0 = omega (arith, ledger.wake, over) in
        stands_from m (at_tick s.gate t) rows lab x there (sentences.awake x ∙ eq-eqb (m.wake x) 0 none) waiting

    -- so a begin that is granted starts an import
    pub begins_some : {e : Event} {later : Moment R T} → Effect m turn s e later → (t : ℕ) (told : Turn) → e ≡ Begin t (Ok told)
        → rest_over (m.rate x0) (m.threshold x0) (runs_of lab b.over) ≤ t → (k : ℕ) × Starts k (Begin t (Ok told))
    begins_some (stays d) t told e over = absurd (denied_none t told d e)
    begins_some (ticket_comes u k declared due time is) t told e over = absurd (let z : ◌≡◌ {A = ℕ} 0 1 = cc in omega arith)
    begins_some (ticket_leaves u number ticket time there) t told e over = absurd (let z : ◌≡◌ {A = ℕ} 0 1 = cc in omega arith)
    begins_some (none_begins u wake (low, high) free none) t told e over =
        let (at, _) = same_begun u t _ told e in
        let stood = stands_rested u low high (omega (arith, at, over)) (rw free refl) in
        absurd (next_there s u lab (omega (arith, a.few, length-rest_others m s.gate.running (u - s.gate.clock) 0 s.rows)) stood none)
    begins_some (run_begins u k ticket time free leads first) t told e over = let (_, is) = same_begun u t _ told e in (k, (t, ticket.number, ticket.length, ap (λ z. Begin t (Ok z)) (sym is)))
    begins_some (run_ends u i time held) t told e over = absurd (let z : ◌≡◌ {A = ℕ} 0 1 = cc in omega arith)

    -- a lab that leads while this one stands is ahead of it
    leads_ahead : (t k : ℕ) → s.gate.clock ≤ t → t ≤ last → rest_over (m.rate x0) (m.threshold x0) (runs_of lab b.over) ≤ t → s.gate.running ≡ None
        → leader m turn (at_tick s.gate t) (rested_to m s.gate s.rows t) ≡ Some k → (lab ≡ k → ⊥) → is_ahead turn s.gate.turns k lab ≡ true
    leads_ahead t k low high over free leads other =
        let (within, stood, ahead) = leader_leads m turn (at_tick s.gate t) (rested_to m s.gate s.rows t) k leads in
        ahead lab (stands_rested t low high over (rw free refl)) other

    lab_low : lab < most_labs
    lab_low = omega (arith, slice_get_within start lab x0 began, a.as_many, a.few)

    -- where another lab begins while this one could, that is so
    waited_first : (other t n l : ℕ) → (lab ≡ other → ⊥) → {e : Event} {later : Moment R T} → Effect m turn s e later
        → rest_over (m.rate x0) (m.threshold x0) (runs_of lab b.over) ≤ t → e ≡ started t other n l → Waited lab other x0 (noted e b) later
    waited_first other t n l apart (stays d) over e = absurd (denied_none t (Began other n l) d e)
    waited_first other t n l apart (ticket_comes u k declared due time is) over e = absurd (let z : ◌≡◌ {A = ℕ} 0 1 = cc in omega arith)
    waited_first other t n l apart (ticket_leaves u number ticket time there) over e = absurd (let z : ◌≡◌ {A = ℕ} 0 1 = cc in omega arith)
    waited_first other t n l apart (none_begins u wake time free none) over e = absurd (none_told u wake other n l (same_begun u t _ _ e).1)
    waited_first other t n l apart (run_begins u k ticket (low, high) free leads first) over e =
        let (at, began_same) = same_begun u t _ _ e in
        let same : k ≡ other = same_began k _ _ other n l began_same in
        let ahead = leads_ahead u k low high (omega (arith, at, over)) free leads (λ is. apart (is ∙ same)) in
        let within = (ahead_means turn s.gate.turns k lab ahead).0 in
        record {
          behind = subst (λ j. Behind turn (after_served turn s.gate.turns k) lab j) same (first_behind turn fair s.gate.turns lab k lab_low within ahead);
          low = omega (arith, same, within);
          over = omega (arith, at, over);
          not_holding = ne_eqb k lab (λ is. apart (sym is ∙ same));
        }
    waited_first other t n l apart (run_ends u i time held) over e = absurd (let z : ◌≡◌ {A = ℕ} 0 1 = cc in omega arith)

    -- and it stays so, whatever happens but a begin of this lab
    waited_denied : (other : ℕ) {e : Event} → Denied e → Waited lab other x0 b s → Waited lab other x0 (noted e b) s
    waited_denied other (open_denied r) w = w
    waited_denied other (file_denied t k declared due r) w = w
    waited_denied other (withdraw_denied t number r) w = w
    waited_denied other (begin_denied t r) w = w
    waited_denied other (end_denied t r) w = w

    waited_idle : (other t : ℕ) (wake : Option ℕ) (later : Moment R T) → Waited lab other x0 (record b { clock = t }) later
        → Waited lab other x0 (noted (Begin t (Ok (turn_of t None wake))) b) later
    waited_idle other t None later w = w
    waited_idle other t (Some u) later w = w

    waited_on : (other : ℕ) → {e : Event} {later : Moment R T} → Effect m turn s e later → (Starts lab e → ⊥) → Waited lab other x0 b s
        → Waited lab other x0 (noted e b) later
    waited_on other (stays d) not w = waited_denied other d w
    waited_on other (ticket_comes u k declared due (low, high) is) not w = record { behind = w.behind; low = w.low; over = omega (arith, w.over, low); not_holding = w.not_holding }
    waited_on other (ticket_leaves u number ticket (low, high) there) not w = record { behind = w.behind; low = w.low; over = omega (arith, w.over, low); not_holding = w.not_holding }
    waited_on other (none_begins u wake (low, high) free none) not w =
        waited_idle other u wake _ (record { behind = w.behind; low = w.low; over = omega (arith, w.over, low); not_holding = w.not_holding })
    waited_on other (run_begins u k ticket (low, high) free leads first) not w =
        let apart : lab ≡ k → ⊥ = λ is. not (u, ticket.number, ticket.length, ap (λ j. Begin u (Ok (Began j ticket.number ticket.length))) (sym is)) in
        let ahead = leads_ahead u k low high (omega (arith, w.over, low)) free leads apart in
        record {
          behind = after_behind turn fair s.gate.turns lab other k lab_low w.low (ahead_means turn s.gate.turns k lab ahead).0 ahead w.behind;
          low = w.low;
          over = omega (arith, w.over, low);
          not_holding = ne_eqb k lab (λ is. apart (sym is));
        }
    waited_on other (run_ends u i (low, high) held) not w =
        let idle : nat_eq i.lab lab ≡ false = sym (ap (λ o. is_running o lab) held) ∙ w.not_holding in
        let holds : b.hold ≡ Some (hold_of i) = a.holds ∙ ap (option_map hold_of) held in
        let same : runs_of lab (closed u b.hold b.over) ≡ runs_of lab b.over = ap (λ h. runs_of lab (closed u h b.over)) holds ∙ rw idle refl in
        record {
          behind = w.behind;
          low = w.low;
          over = subst (λ rs. rest_over (m.rate x0) (m.threshold x0) rs ≤ u) (sym same) (omega (arith, w.over, low));
          not_holding = refl;
        }

    -- so that other lab does not begin again
    never_again : (other : ℕ) → (lab ≡ other → ⊥) → {e : Event} {later : Moment R T} → Effect m turn s e later → Waited lab other x0 b s
        → Starts other e → ⊥
    never_again other apart (stays d) w (t, n, l, e) = denied_none t (Began other n l) d e
    never_again other apart (ticket_comes u k declared due time is) w (t, n, l, e) = absurd (let z : ◌≡◌ {A = ℕ} 0 1 = cc in omega arith)
    never_again other apart (ticket_leaves u number ticket time there) w (t, n, l, e) = absurd (let z : ◌≡◌ {A = ℕ} 0 1 = cc in omega arith)
    never_again other apart (none_begins u wake time free none) w (t, n, l, e) = none_told u wake other n l (same_begun u t _ _ e).1
    never_again other apart (run_begins u k ticket (low, high) free leads first) w (t, n, l, e) =
        let same : k ≡ other = same_began k _ _ other n l (same_begun u t _ _ e).1 in
        let ahead = leads_ahead u k low high (omega (arith, w.over, low)) free leads (λ is. apart (is ∙ same)) in
        let before : Behind turn s.gate.turns other lab = subst (λ j. Behind turn s.gate.turns j lab) same (ahead_means turn s.gate.turns k lab ahead).2 in
        let after = w.behind in
        absurd (omega (arith, before, after))
    never_again other apart (run_ends u i time held) w (t, n, l, e) = absurd (let z : ◌≡◌ {A = ℕ} 0 1 = cc in omega arith)

-- a lab that keeps waiting waits at the end
keeps_now : (lab : ℕ) (es before : List Event) → KeepsWaiting lab es before → waits (es ++ before) lab ≡ true
keeps_now lab [] before keeps = keeps
keeps_now lab (e ∷ es) before keeps = keeps.0

module _ {R T : Type 0} {m : Meaning R} (sentences : Sentences m) (turn : Turns T) (fair : Fair turn) (start : Moment R T) (o : Opened m start) where
  agreed : {es : List Event} {s : Moment R T} → History m turn start es s → Agrees m start.rows (log es) s
  agreed opened = agrees_opened sentences start o
  agreed (next h happens) = let a = agreed h in agrees_on sentences turn a (effect m turn _ a.labs happens)

  traced : {es : List Event} {s : Moment R T} → History m turn start es s → Traced es s
  traced opened = traced_opened start o.waiting o.running
  traced (next h happens) = let a = agreed h in traced_on (traced h) a.tickets.own (effect m turn _ a.labs happens)

  -- what led to the latest event, and what that did
  last_event : {es : List Event} {later : Moment R T} → History m turn start es later → (e : Event) (earlier : List Event) → es ≡ e ∷ earlier
      → (s : Moment R T) × History m turn start earlier s × Effect m turn s e later
  last_event opened e earlier same = absurd (let z : ◌≡◌ {A = ℕ} 0 1 = cc in omega arith)
  last_event (next {es} {s} {later} {e} h happens) f earlier same =
      let before : es ≡ earlier = cc in
      let now : e ≡ f = cc in
      (s, subst (λ l. History m turn start l s) before h, subst (λ g. Effect m turn s g later) now (effect m turn s (agreed h).labs happens))

  has_waiting : {es : List Event} {s : Moment R T} → History m turn start es s → (lab : ℕ) → waits es lab ≡ true
      → has_ticket s.gate.waiting lab ≡ true
  has_waiting h lab waiting = sym (same_waits (agreed h).tickets lab) ∙ waiting

  module _ (lab other t number declared : ℕ) (x0 : R) (began : slice_get start.rows lab ≡ Some x0) (apart : lab ≡ other → ⊥) (earlier : List Event)
      (rested : HasRested m x0 earlier lab t) where
    abbrev first : Event
    first = started t other number declared

    waited : (between : List Event) {s : Moment R T} → History m turn start (between ++ first ∷ earlier) s
        → KeepsWaiting lab (between ++ first ∷ []) earlier
        → Waited sentences turn fair lab other x0 (log (between ++ first ∷ earlier)) s
    waited [] h keeps =
        let (s, before, effect) = last_event h first earlier refl in
        waited_first sentences turn fair (agreed before) lab x0 began (has_waiting before lab (keeps_now lab [] earlier keeps.2)) other t number declared apart effect rested refl
    waited (e ∷ es) h keeps =
        let (s, before, effect) = last_event h e (es ++ first ∷ earlier) refl in
        let waiting : waits (es ++ first ∷ earlier) lab ≡ true = ap (λ l. waits l lab) (sym (append_assoc es (first ∷ []) earlier)) ∙ keeps_now lab (es ++ first ∷ []) earlier keeps.2 in
        waited_on sentences turn fair (agreed before) lab x0 began (has_waiting before lab waiting) other effect keeps.1 (waited es before keeps.2)

    never : (second : Event) (between es : List Event) {later : Moment R T} → History m turn start es later → es ≡ second ∷ between ++ first ∷ earlier
        → KeepsWaiting lab (between ++ first ∷ []) earlier → Starts other second → ⊥
    never second between es h same keeps again =
        let (s, before, effect) = last_event h second (between ++ first ∷ earlier) same in
        let waiting : waits (between ++ first ∷ earlier) lab ≡ true
        = ap (λ l. waits l lab) (sym (append_assoc between (first ∷ []) earlier)) ∙ keeps_now lab (between ++ first ∷ []) earlier keeps in
        never_again sentences turn fair (agreed before) lab x0 began (has_waiting before lab waiting) other apart effect (waited between before keeps) again

  kept : (es : List Event) (later : Moment R T) → History m turn start es later → Kept m start.rows es
  kept es later h = record {
    lab_bound = λ lab from n x there up_to. lab_keeps sentences (agreed h) lab from n x there up_to;
    curators = λ from n up_to. curators m start.rows es (labs_of_runs sentences (agreed h)) from n (λ lab x there. lab_keeps sentences (agreed h) lab from n x there up_to);
    no_idling = λ lab t x told earlier there same rested waiting.
        let (s, before, effect) = last_event h (Begin t (Ok told)) earlier same in
        begins_some sentences turn fair (agreed before) lab x there (has_waiting before lab waiting) effect t told refl rested;
    no_overtaking = λ lab other t number declared x second between earlier there apart same rested keeps again.
        never lab other t number declared x there apart earlier rested second between es h same keeps again;
    exact_end = λ t number held response earlier same.
        let (s, before, effect) = last_event h (End t (Ok (number, held, response))) earlier same in ends_exactly (traced before) (agreed before).holds effect t number held response refl;
  }

-- what the contract of `open` promises
module _ {R T : Type 0} {m : Meaning R} (sentences : Sentences m) {turn : Turns T} (fair : Fair turn) where
  pub guaranteed : (gate : GateState T) (before rows : List R) → rows ≡ map m.restarted before → gate.clock ≡ 0 → gate.running ≡ None
      → gate.waiting ≡ none_waiting
      → gate.labs ≡ length before → length before ≤ most_labs → Guarantee m turn (record { gate = gate; rows = rows })
  unfolding Guarantee
  guaranteed gate before rows restarted clock free none labs few =
      let long : length rows ≡ length before = ap length restarted ∙ length-map before m.restarted in
      kept sentences turn fair (record { gate = gate; rows = rows }) (record {
        clock = clock;
        running = free;
        waiting = none;
        labs = labs ∙ sym long;
        few = omega (arith, long, few);
        anew = (before, restarted);
      })
