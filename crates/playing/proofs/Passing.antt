-- Going from event to event: what is kept, and why it prints what the ticks print.
use Rattle.std.proofs.Common.{◌≡◌, ℕ, suc, ◌+◌, ◌-◌, ◌<◌, ◌≤◌, Bool, true, false, if◌then◌else◌, List, [], ◌∷◌, ◌++◌, fold, slice_get, All, Contains, Ok, Err, Result, Option, Some, None, refl, sym, ap, subst, ◌∙◌, arith, ⊎_elim}
use Rattle.std.specs.Option.{option_map_or}
use Rattle.std.proofs.lemmas.Bool.{cases_Bool, cases_eq, eqb-true, ne_eqb, eq-eqb, leb-true, leb-false}
use Rattle.std.proofs.lemmas.Option.{none-some, same_Some}
use Rattle.std.proofs.lemmas.List.Elements.{All-nil, All-cons, All-head, All-weaker, All-contains}
use Rattle.earliest.specs.Sorted.{inserted, sorted}
use Rattle.measures.specs.Limits.{last, most_labs, is_tick}
use Rattle.server.specs.declared.ServerRow.{ServerRow}
use Rattle.server.specs.Row.{server}
use Rattle.server.specs.Keeps.{keeps}
use Rattle.turns.specs.declared.circular.CircularTurns.{CircularTurns}
use Rattle.turns.specs.Circular.{circular}
use Rattle.turns.specs.CircularIsFair.{circular_fair}
use Rattle.measures.specs.declared.refusal.Refusal.{Refusal}
use Rattle.budget.specs.Meaning.{Meaning, Sentences}
use Rattle.turns.specs.Turns.{Turns, Fair}
use Rattle.history.specs.declared.import.Import.{Import}
use Rattle.history.specs.declared.turn.Turn.{Turn}
use Rattle.history.specs.declared.turn.Turn.TheVariants.{Began, Wait, Nothing}
use Rattle.history.specs.Histories.{ToEnd}
use Rattle.outlook.specs.Outlooks.{AllLawful}
use Rattle.outlook.proofs.Lawful.{lawful_none}
use Rattle.plan.specs.Plans.{Lists}
use Rattle.course.specs.Asking.{asked_at}
use Rattle.course.specs.Printing.{ended}
use Rattle.course.specs.Course.{Stage, ends_at, called, ask, end_due, begun, begin_answer, printed_from}
use Rattle.course.proofs.Kept.{step_keeps}
use Rattle.course.proofs.Quiet.{CannotBegin, Quiet, skipped, passed, all_passed, clock_within, clock_asked, asked_running, labs_asked, labs_kept}
use Rattle.course.proofs.Begins.{running_cannot, began_runs, denied_begin, waits_until, nothing_waits, granted_free}
use Rattle.course.proofs.Lengths.{lawful_asked, lawful_kept, began_lawful}
use Rattle.agenda.specs.declared.event.Event.{Event}
use Rattle.agenda.specs.Events.{event_before, first_events, plan_events, end_at, begin_at, head_at, after_head}
use Rattle.agenda.specs.Happening.{happen, with_event, scheduled}
use Rattle.agenda.proofs.Acts.{acts_at, ends, bridge}
use Rattle.agenda.proofs.Ascending.{Ascend, ascends, inserted_ascends, acts_first, begin_put, end_put, end_put_other, begin_first, first_events_by, inserted_all, inserted_there, later_ticks}
use Rattle.agenda.proofs.Taking.{no_more}
use Rattle.agenda.proofs.Heads.{after_keeps, after_ascends, after_later, after_acts, head_acts, none_at}
use Rattle.playing.specs.Stages.{IsLawful, IsFresh}

-- the tick of the first of these events, and one above the last tick where there is none
abbrev next_tick : List Event → ℕ
next_tick [] = last + 1
next_tick (e ∷ es) = e.tick

-- how many ticks are left from the first event on
unfoldable pub ticks_left : List Event → ℕ
ticks_left es = last + 1 - next_tick es

-- the import that holds the lock
abbrev pub held : {R T : Type 0} → Stage R T → Option Import
held s = s.moment.gate.running

module _ {R T : Type 0} (row : Meaning R) (turn : Turns T) (p : Lists) where
  -- the import that runs and the events to come agree with the plan from tick t on
  abbrev pub Agree : ℕ → Option Import → List Event → Type 0
  Agree t running es = (u : ℕ) → t ≤ u → u ≤ last → acts_at u es ≡ ends u running ++ acts_at u (plan_events p)

  -- from tick t on no begin starts an import before one is to come
  abbrev pub Idle : ℕ → Stage R T → List Event → Type 0
  Idle t s es = (u : ℕ) → t ≤ u → u ≤ last → ((w : ℕ) → Contains es (begin_at w) → u < w) → CannotBegin row turn s u

  -- All ticks below t have passed. From the stage s, with these events to come, the ticks from t on print the whole in the end.
  pub record At (whole : List ℕ) (s : Stage R T) (es : List Event) (t : ℕ) : Type 0 where
    pub low : t ≤ last + 1
    pub clock : s.moment.gate.clock ≤ t
    pub labs : s.moment.gate.labs ≤ most_labs
    pub lengths : AllLawful s.moment.gate.waiting
    pub ascend : Ascend es
    pub from : All (λ e. t ≤ e.tick) es
    pub within : All (λ e. e.tick ≤ last) es
    pub agree : Agree t (held s) es
    pub idle : Idle t s es
    pub rest : printed_from row turn p t s ≡ whole

  -- so it is for some tick
  unfoldable pub PlaysOn : List ℕ → Stage R T → List Event → Type 0
  PlaysOn whole s es = (t : ℕ) × At whole s es t

  -- ---- the end of an import that runs

  -- an import that is to end at tick t is to end at no other
  ends_apart : (i : Import) (t u : ℕ) → ends_at t i ≡ true → (u ≡ t → ⊥) → ends u (Some i) ≡ []
  unfolding ends
  ends_apart i t u due other =
      let at = eqb-true (i.began + i.length) t due in
      rw (ne_eqb (i.began + i.length) u (λ same. other (sym same ∙ at))) refl

  -- where none runs, none ends
  ends_none : (u : ℕ) → ends u None ≡ []
  unfolding ends
  ends_none u = refl

  -- once an import has ended that was due at tick t, no other tick has another end
  later_ends : (s : Stage R T) (t u : ℕ) → (u ≡ t → ⊥) → ends u (held (end_due row turn t s)) ≡ ends u (held s)
  later_ends s t u other = go (held s) refl
    where
      go : (o : Option Import) → held s ≡ o
          → ends u (held (option_map_or (λ i. if ends_at t i then called row turn (ended i.lab) (ToEnd t) s else s) o s)) ≡ ends u (held s)
      go None is = refl
      go (Some i) is =
          ⊎_elim
          (λ due.
          let none : ends u None ≡ ends u (held s) = ends_none u ∙ sym (ends_apart i t u due other) ∙ ap (ends u) (sym is) in
          rw due (step_keeps (λ g. ends u g.running ≡ ends u (held s)) _ _ _ _ _ refl (λ a granted. none)))
          (λ not_due. rw not_due refl)
          (cases_Bool (ends_at t i))

  -- ---- ticks at which nothing happens

  -- a tick that all events come after
  quiet : {whole : List ℕ} {s : Stage R T} {es : List Event} {t : ℕ} → At whole s es t → (v : ℕ) → t ≤ v → v ≤ last → All (λ e. v + 1 ≤ e.tick) es
      → Quiet row turn p v s
  quiet {whole} {s} {es} at v low high later = record {
    still = sym (bridge row turn p v s) ∙ ap (happen row turn p s) (sym (at.agree v low high) ∙ none_at v es later) ∙ no_more row turn p s [] refl;
    cannot_begin = at.idle v low high (λ w there. let after = All-contains (λ e. v + 1 ≤ e.tick) es (begin_at w) later there in omega (arith, after));
  }

  -- ---- what is kept

  -- so it is at the beginning
  begins : (s : Stage R T) → IsFresh s → IsLawful p → At (printed_from row turn p 0 s) s (sorted event_before (first_events p)) 0
  unfolding ends
  begins s fresh lawful =
      let es = sorted event_before (first_events p) in
      let clock = fresh.clock in
      record {
        low = omega arith;
        clock = omega (arith, clock);
        labs = fresh.labs;
        lengths = lawful_none s.moment.gate.waiting fresh.waiting;
        ascend = ascends (first_events p);
        from = λ k d short. omega arith;
        within = first_events_by p last lawful.withdrawn lawful.filed;
        agree = λ u low high. acts_first p u ∙ ap (λ o. ends u o ++ acts_at u (plan_events p)) (sym fresh.free);
        idle = λ u low high before. absurd (let z = before 0 (begin_first p) in omega (arith, z));
        rest = refl;
      }

  -- a list or another, each where the test says so
  chosen : (P : List Event → Type 0) (b : Bool) (xs ys : List Event) → (b ≡ true → P xs) → (b ≡ false → P ys) → P (if b then xs else ys)
  chosen P true xs ys one other = one refl
  chosen P false xs ys one other = other refl

  -- The tick of the first event passes.
  module _ (sentences : Sentences row) (fair : Fair turn) (whole : List ℕ) (s : Stage R T) (e : Event) (es : List Event) (t : ℕ)
      (at : At whole s (e ∷ es) t) where
    -- the tick that passes
    abbrev now : ℕ
    now = e.tick

    -- the stage before its begin
    abbrev before : Stage R T
    before = fold (ask row turn) (end_due row turn now s) (asked_at p now)

    -- and after it
    abbrev after : Stage R T
    after = begun row turn now before

    -- the events to come that are not at this tick
    abbrev left : List Event
    left = after_head now (e ∷ es)

    low_now : t ≤ now
    low_now = All-head (λ x. t ≤ x.tick) e es at.from

    high_now : now ≤ last
    high_now = All-head (λ x. x.tick ≤ last) e es at.within

    none_earlier : All (λ x. now ≤ x.tick) (e ∷ es)
    none_earlier = All-cons (λ x. now ≤ x.tick) e es (omega arith) (later_ticks e es at.ascend)

    -- its events bring about what comes before the begin
    happened : happen row turn p s (head_at now (e ∷ es)) ≡ before
    happened =
        head_acts row turn p s now (e ∷ es) at.ascend none_earlier
        ∙ ap (happen row turn p s) (at.agree now low_now high_now)
        ∙ bridge row turn p now s

    -- nothing happens at the ticks before it
    nothing_before : (v : ℕ) → t ≤ v → v < now → Quiet row turn p v s
    nothing_before v low below =
        quiet at v low (omega (arith, high_now))
        (All-weaker (λ x. now ≤ x.tick) (λ x. v + 1 ≤ x.tick) (λ x far. omega (arith, far)) (e ∷ es) none_earlier)

    rest_after : printed_from row turn p (suc now) after ≡ whole
    rest_after =
        sym (passed row turn p s now high_now)
        ∙ sym (skipped sentences turn p s t now at.clock low_now (omega (arith, high_now)) nothing_before)
        ∙ at.rest

    left_ascends : Ascend left
    left_ascends = after_ascends now (e ∷ es) at.ascend

    left_later : All (λ x. suc now ≤ x.tick) left
    left_later =
        All-weaker (λ x. now + 1 ≤ x.tick) (λ x. suc now ≤ x.tick) (λ x far. omega (arith, far)) left
        (after_later now (e ∷ es) at.ascend none_earlier)

    left_within : All (λ x. x.tick ≤ last) left
    left_within = after_keeps (λ x. x.tick ≤ last) now (e ∷ es) at.within

    -- they agree with the plan, and with the import that runs before the begin
    left_agrees : Agree (suc now) (held before) left
    left_agrees u low high =
        let other : u ≡ now → ⊥ = λ same. omega arith in
        let runs : ends u (held before) ≡ ends u (held s)
        = ap (ends u) (asked_running row turn p (end_due row turn now s) now) ∙ later_ends s now u other in
        after_acts now u (e ∷ es) (omega arith) ∙ at.agree u (omega (arith, low_now)) high ∙ ap (λ l. l ++ acts_at u (plan_events p)) (sym runs)

    -- what is left to show of the events that are to come after the begin
    built : (then_left : List Event) → Ascend then_left → All (λ x. suc now ≤ x.tick) then_left → All (λ x. x.tick ≤ last) then_left
        → Agree (suc now) (held after) then_left → Idle (suc now) after then_left → At whole after then_left (suc now)
    built then_left up later within agree idle =
        let clock = clock_within row turn p s now (omega (arith, at.clock, low_now)) in
        record {
          low = omega (arith, high_now);
          clock = omega (arith, clock);
          labs = omega (arith, labs_kept row turn p s now, at.labs);
          lengths = lawful_kept row turn p s now at.lengths;
          ascend = up;
          from = later;
          within = within;
          agree = agree;
          idle = idle;
          rest = rest_after;
        }

    -- where no import runs after the begin, and none did before it
    agree_free : held before ≡ None → held after ≡ None → Agree (suc now) (held after) left
    agree_free free still u low high = left_agrees u low high ∙ ap (λ o. ends u o ++ acts_at u (plan_events p)) (free ∙ sym still)

    -- the import i has begun, which lasts c ticks
    module _ (i : Import) (c : ℕ) (free : held before ≡ None) (runs : held after ≡ Some i)
        (began : i.began ≡ now) (lasts : i.length ≡ c) (some : 1 ≤ c) where
      plain : (u : ℕ) → suc now ≤ u → u ≤ last → acts_at u left ≡ acts_at u (plan_events p)
      unfolding ends
      plain u low high = left_agrees u low high ∙ ap (λ o. ends u o ++ acts_at u (plan_events p)) free

      ends_then : (u : ℕ) → u ≡ now + c → ends u (held after) ≡ end_at u ∷ []
      unfolding ends
      ends_then u same = ap (ends u) runs ∙ rw (eq-eqb (i.began + i.length) u (omega (arith, began, lasts, same))) refl

      ends_not : (u : ℕ) → (u ≡ now + c → ⊥) → ends u (held after) ≡ []
      unfolding ends
      ends_not u other = ap (ends u) runs ∙ rw (ne_eqb (i.began + i.length) u (λ same. other (omega (arith, began, lasts, same)))) refl

      never : Idle (suc now) after left
      never u low high none = running_cannot row turn after i runs u

      agree_not : (u : ℕ) → suc now ≤ u → u ≤ last → (u ≡ now + c → ⊥) → acts_at u left ≡ ends u (held after) ++ acts_at u (plan_events p)
      agree_not u low high other = plain u low high ∙ ap (λ l. l ++ acts_at u (plan_events p)) (sym (ends_not u other))

      run_begun : At whole after (with_event (end_at (now + c)) left) (suc now)
      run_begun =
          let e_end = end_at (now + c) in
          chosen (λ l. At whole after l (suc now)) (is_tick (now + c)) (inserted event_before e_end left) left
          (λ yes. built (inserted event_before e_end left)
          (inserted_ascends e_end left left_ascends)
          (inserted_all (λ x. suc now ≤ x.tick) e_end left left_later (omega (arith, some)))
          (inserted_all (λ x. x.tick ≤ last) e_end left left_within (leb-true (now + c) last yes))
          (λ u low high. ⊎_elim
          (λ same.
          subst (λ v. acts_at u (inserted event_before (end_at v) left) ≡ ends u (held after) ++ acts_at u (plan_events p)) same
          (end_put u left (acts_at u (plan_events p)) left_ascends (plain u low high) ∙ ap (λ l. l ++ acts_at u (plan_events p)) (sym (ends_then u same))))
          (λ other. end_put_other u (now + c) left left_ascends other ∙ agree_not u low high other)
          (cases_eq u (now + c)))
          (λ u low high none. running_cannot row turn after i runs u))
          (λ no. built left left_ascends left_later left_within
          (λ u low high. agree_not u low high (λ same. let past = leb-false (now + c) last no in omega (arith, same, past, high)))
          never)

    -- a begin is to come at tick w, or none where that is above the last tick
    wait_begun : (w : ℕ) → now < w → held before ≡ None → held after ≡ None
        → ((u : ℕ) → now < u → u < w → CannotBegin row turn after u) → At whole after (with_event (begin_at w) left) (suc now)
    wait_begun w later free still cannot =
        chosen (λ l. At whole after l (suc now)) (is_tick w) (inserted event_before (begin_at w) left) left
        (λ yes. built (inserted event_before (begin_at w) left)
        (inserted_ascends (begin_at w) left left_ascends)
        (inserted_all (λ x. suc now ≤ x.tick) (begin_at w) left left_later (omega (arith, later)))
        (inserted_all (λ x. x.tick ≤ last) (begin_at w) left left_within (leb-true w last yes))
        (λ u low high. begin_put u w left left_ascends ∙ agree_free free still u low high)
        (λ u low high sooner. cannot u (omega arith) (sooner w (inserted_there (begin_at w) left))))
        (λ no. built left left_ascends left_later left_within (agree_free free still)
        (λ u low high sooner. let past = leb-false w last no in cannot u (omega arith) (omega (arith, past, high))))

    -- so the tick passes, whatever the begin answers
    tick_passes : (answer : Result Turn Refusal) → begin_answer row turn now before ≡ answer → At whole after (scheduled now answer left) (suc now)
    tick_passes (Ok (Began k n c)) said =
        let (i, runs, began, lasts) = began_runs row turn before now k n c said in
        run_begun i c (granted_free row turn before now _ said) runs began lasts
        (began_lawful row turn before now k n c (lawful_asked row turn p s now at.lengths) said)
    tick_passes (Ok (Wait w)) said =
        let labs : before.moment.gate.labs ≤ most_labs = omega (arith, labs_asked row turn p s now, at.labs) in
        let (still, later, cannot) = waits_until sentences turn fair before labs now w said in
        wait_begun w later (granted_free row turn before now _ said) still cannot
    tick_passes (Ok Nothing) said =
        let (still, cannot) = nothing_waits sentences turn before now said in
        built left left_ascends left_later left_within (agree_free (granted_free row turn before now _ said) still)
        (λ u low high sooner. cannot u (omega arith))
    tick_passes (Err r) said =
        let (same, cannot) = denied_begin row turn before now r (clock_asked row turn p s now (omega (arith, at.clock, low_now))) high_now said in
        built left left_ascends left_later left_within
        (λ u low high. left_agrees u low high ∙ ap (λ a. ends u (held a) ++ acts_at u (plan_events p)) (sym same))
        (λ u low high sooner. cannot u (omega arith))

-- ---- one turn of the loop

-- ticks are fewer once the first event is at a later one
fewer_left : (t : ℕ) (es : List Event) → t ≤ last → All (λ e. suc t ≤ e.tick) es → ticks_left es < last + 1 - t
unfolding ticks_left
fewer_left t [] high later = omega (arith, high)
fewer_left t (e ∷ es) high later = let first = All-head (λ x. suc t ≤ x.tick) e es later in omega (arith, high, first)

module _ (p : Lists) (whole : List ℕ) (s : Stage ServerRow CircularTurns) where
  -- what is known after a turn with the event e first of these, where b is the stage before the begin
  abbrev AfterTurn : List Event → Event → Stage ServerRow CircularTurns → Type 0
  AfterTurn xs e b =
      let coming = scheduled e.tick (begin_answer server circular e.tick b) (after_head e.tick xs) in
      At server circular p whole (begun server circular e.tick b) coming (suc e.tick)

  abbrev Turned : List Event → Event → Type 0
  Turned xs e = (e.tick ≤ last) × (ticks_left xs ≡ last + 1 - e.tick) × AfterTurn xs e (happen server circular p s (head_at e.tick xs))

-- what a turn does to the stage s, with the event e first of those to come
module _ (p : Lists) (whole : List ℕ) (s : Stage ServerRow CircularTurns) (es : List Event) (e : Event) where
  -- the stage before the begin
  abbrev once_happened : Stage ServerRow CircularTurns
  once_happened = happen server circular p s (head_at e.tick es)

  -- and the events to come after it
  abbrev once_begun : List Event
  once_begun = scheduled e.tick (begin_answer server circular e.tick once_happened) (after_head e.tick es)

  -- the tick of the first event passes
  turned : (t : ℕ) → At server circular p whole s es t → slice_get es 0 ≡ Some e → Turned p whole s es e
  unfolding ticks_left
  turned t at first = go es first at
    where
      go : (xs : List Event) → slice_get xs 0 ≡ Some e → At server circular p whole s xs t → Turned p whole s xs e
      go [] none at = absurd (none-some e none)
      go (x ∷ xs) first at =
          let a = tick_passes server circular p keeps circular_fair whole s x xs t at _ refl in
          let same = same_Some x e first in
          subst (Turned p whole s (x ∷ xs)) same (
            high_now server circular p keeps circular_fair whole s x xs t at,
            refl,
            subst (AfterTurn p whole s (x ∷ xs) x) (sym (happened server circular p keeps circular_fair whole s x xs t at)) a,
          )

  -- so what is kept is kept
  pub passes : (stage : Stage ServerRow CircularTurns) (coming : List Event) → PlaysOn server circular p whole s es → slice_get es 0 ≡ Some e
      → stage ≡ begun server circular e.tick once_happened → coming ≡ once_begun → PlaysOn server circular p whole stage coming
  unfolding PlaysOn
  passes stage coming (t, at) first is_stage is_coming =
      let later = (turned t at first).2 in (
        suc e.tick,
        subst (λ v. At server circular p whole v coming (suc e.tick)) (sym is_stage)
            (subst (λ l. At server circular p whole (begun server circular e.tick once_happened) l (suc e.tick)) (sym is_coming) later),
      )

  -- and fewer ticks are left
  pub sooner : (coming : List Event) → PlaysOn server circular p whole s es → slice_get es 0 ≡ Some e → coming ≡ once_begun
      → ticks_left coming < ticks_left es
  unfolding PlaysOn
  sooner coming (t, at) first is_coming =
      let (high, left, later) = turned t at first in
      let fewer = fewer_left e.tick once_begun high later.from in
      subst (λ l. ticks_left l < ticks_left es) (sym is_coming) (omega (arith, fewer, left))

-- what is kept, before the first turn
pub starts : (p : Lists) (s : Stage ServerRow CircularTurns) (es : List Event) → IsFresh s → IsLawful p → es ≡ sorted event_before (first_events p)
    → PlaysOn server circular p (printed_from server circular p 0 s) s es
unfolding PlaysOn
starts p s es fresh lawful is =
    (0, subst (λ l. At server circular p (printed_from server circular p 0 s) s l 0) (sym is) (begins server circular p s fresh lawful))

-- once no event is to come, all is printed
pub over : (p : Lists) (whole : List ℕ) (s : Stage ServerRow CircularTurns) (es : List Event) → PlaysOn server circular p whole s es
    → slice_get es 0 ≡ None → s.printed ≡ whole
unfolding PlaysOn
over p whole s [] (t, at) none =
    sym (skipped keeps circular p s t (last + 1) at.clock at.low (omega arith)
    (λ v low below. quiet server circular p at v low (omega (arith, below)) (All-nil _))
    ∙ all_passed server circular p s)
    ∙ at.rest
over p whole s (e ∷ es) (t, at) none = absurd (none-some e (sym none))
