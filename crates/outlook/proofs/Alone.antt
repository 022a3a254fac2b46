-- A list that is written by an outlook foretells what becomes of the lab when it is left alone.
use Rattle.std.proofs.Common.{◌≡◌, ℕ, ◌+◌, ◌<◌, ◌≤◌, List, [], ◌∷◌, ◌++◌, length, drop, slice_get, slice_index_or, Ok, Err, Result, OnOk, Some, None, refl, sym, ap, subst, ◌∙◌, arith, ⊎_elim}
use Rattle.std.proofs.lemmas.Bool.{cases_lt, le-leb, lt-leb}
use Rattle.std.proofs.lemmas.Option.{slice_get-get_or}
use Rattle.measures.specs.Limits.{last, most_labs}
use Rattle.budget.specs.Meaning.{Meaning, Sentences}
use Rattle.budget.specs.Imports.{next_slot, after_run}
use Rattle.turns.specs.Turns.{Turns}
use Rattle.waiting.specs.Queues.{queue_of, headed_by}
use Rattle.waiting.specs.declared.ticket.Ticket.{Ticket}
use Rattle.history.specs.Gates.{GateState, Moment}
use Rattle.history.specs.Histories.{ToBegin, ToEnd, Event, does}
use Rattle.history.specs.Guaranteed.{started}
use Rattle.outlook.specs.declared.entry.Entry.{Entry}
use Rattle.outlook.specs.Outlooks.{entry_of, outlook}
use Rattle.outlook.specs.LeftAlone.{event, after, CanBegin, FirstBegin, LeftAlone, over, runs, outlasts, only, foretold, all_foretold, Foretells}
use Rattle.outlook.proofs.OneLab.{HasAlone, alone_only, can_begin_alone, once_begun, once_ended, begin_alone, end_alone, alone_again}

-- events that start one import declare one length
same_declared : (t u k j n m c d : ℕ) → started t k n c ≡ started u j m d → c ≡ d
same_declared t u k j n m c d e = cc

-- what begins first at a moment, and when it ends, is determined
module _ {R T : Type 0} (row : Meaning R) (turn : Turns T) (s : Moment R T) where
  can_first : (t c : ℕ) → FirstBegin row turn s t c → CanBegin row turn s t
  can_first t c f = (f.lab, (t, f.number, c, f.starts))

  same_tick : (t u c d : ℕ) → FirstBegin row turn s t c → FirstBegin row turn s u d → t ≡ u
  same_tick t u c d f g = ⊎_elim
      (λ lower. absurd (g.not_before t lower (can_first t c f)))
      (λ not_lower. ⊎_elim
      (λ higher. absurd (f.not_before u higher (can_first u d g)))
      (λ not_higher. omega arith)
      (cases_lt u t))
      (cases_lt t u)

  same_length : (t u c d : ℕ) → t ≡ u → FirstBegin row turn s t c → FirstBegin row turn s u d → c ≡ d
  same_length t u c d at f g =
      same_declared t u f.lab g.lab f.number g.number c d (sym f.starts ∙ ap (λ v. event row turn (ToBegin v) s) at ∙ g.starts)

  same_end : (t u c d : ℕ) → FirstBegin row turn s t c → FirstBegin row turn s u d → t + c ≡ u + d
  same_end t u c d f g =
      let at = same_tick t u c d f g in
      let long = same_length t u c d at f g in
      omega (arith, at, long)

  -- what a begin at tick t and an end c ticks later leave, and their events before others
  abbrev run_leaves : ℕ → ℕ → Moment R T
  run_leaves t c = after row turn (ToEnd (t + c)) (after row turn (ToBegin t) s)

  abbrev run_events : ℕ → ℕ → List Event → List Event
  run_events t c es = event row turn (ToBegin t) s ∷ event row turn (ToEnd (t + c)) (after row turn (ToBegin t) s) ∷ es

module _ {R T : Type 0} (row : Meaning R) (turn : Turns T) where
  -- just one thing becomes of a moment that is left alone
  one_future : (s : Moment R T) (es fs : List Event) → LeftAlone row turn s es → LeftAlone row turn s fs → es ≡ fs
  one_future s es fs (over none) (over none_too) = refl
  one_future s es fs (over none) (runs {t = t} {c = c} f room rest) = absurd (none t (can_first row turn s t c f))
  one_future s es fs (over none) (outlasts {t = t} {c = c} f past) = absurd (none t (can_first row turn s t c f))
  one_future s es fs (runs {t = t} {c = c} f room rest) (over none) = absurd (none t (can_first row turn s t c f))
  one_future s es fs (outlasts {t = t} {c = c} f past) (over none) = absurd (none t (can_first row turn s t c f))
  one_future s es fs (runs {t = t} {c = c} f room rest) (outlasts {t = u} {c = d} g past) =
      absurd (omega (arith, room, past, same_end row turn s t u c d f g))
  one_future s es fs (outlasts {t = t} {c = c} f past) (runs {t = u} {c = d} g room rest) =
      absurd (omega (arith, room, past, same_end row turn s t u c d f g))
  one_future s es fs (outlasts {t = t} {c = c} f past) (outlasts {t = u} {c = d} g past_too) =
      ap (λ v. event row turn (ToBegin v) s ∷ []) (same_tick row turn s t u c d f g)
  one_future s es fs (runs {t = t} {c = c} {es = later} f room rest) (runs {t = u} {c = d} {es = later_too} g room_too rest_too) =
      let at = same_tick row turn s t u c d f g in
      let long = same_length row turn s t u c d at f g in
      let same : run_leaves row turn s u d ≡ run_leaves row turn s t c = (λ i. run_leaves row turn s (sym at i) (sym long i)) in
      let rest_here = subst (λ l. LeftAlone row turn l later_too) same rest_too in
      (λ i. run_events row turn s (at i) (long i) (one_future (run_leaves row turn s t c) later later_too rest rest_here i))

  -- a begin that starts an import, where none before it could, is the first
  first_begin : (s b : Moment R T) (t c lab number : ℕ)
      → does row turn (ToBegin t) s.gate s.rows ≡ record { event = started t lab number c; left = b }
      → ((u : ℕ) → u < t → CanBegin row turn s u → ⊥) → FirstBegin row turn s t c
  first_begin s b t c lab number begins before = record { lab = lab; number = number; starts = ap (λ d. d.event) begins; not_before = before }

  -- its import runs, by what the begin and the end of it do
  runs_as : (s b l : Moment R T) (t c lab number : ℕ) (e : Event) (es : List Event)
      → does row turn (ToBegin t) s.gate s.rows ≡ record { event = started t lab number c; left = b }
      → does row turn (ToEnd (t + c)) b.gate b.rows ≡ record { event = e; left = l }
      → ((u : ℕ) → u < t → CanBegin row turn s u → ⊥) → t + c ≤ last
      → LeftAlone row turn l es → LeftAlone row turn s (started t lab number c ∷ e ∷ es)
  runs_as s b l t c lab number e es begins ends before room rest =
      let begun = after row turn (ToBegin t) s in
      let ends_so : does row turn (ToEnd (t + c)) begun.gate begun.rows ≡ record { event = e; left = l }
      = subst (λ m. does row turn (ToEnd (t + c)) m.gate m.rows ≡ record { event = e; left = l }) (sym (ap (λ d. d.left) begins)) ends in
      let first = first_begin s b t c lab number begins before in
      subst (λ f. LeftAlone row turn s (f ∷ e ∷ es)) (ap (λ d. d.event) begins)
      (subst (λ f. LeftAlone row turn s (event row turn (ToBegin t) s ∷ f ∷ es)) (ap (λ d. d.event) ends_so)
      (runs first room (subst (λ m. LeftAlone row turn m es) (sym (ap (λ d. d.left) ends_so)) rest)))

  -- or it outlasts the last tick
  outlasts_as : (s b : Moment R T) (t c lab number : ℕ)
      → does row turn (ToBegin t) s.gate s.rows ≡ record { event = started t lab number c; left = b }
      → ((u : ℕ) → u < t → CanBegin row turn s u → ⊥) → last < t + c → LeftAlone row turn s (started t lab number c ∷ [])
  outlasts_as s b t c lab number begins before past =
      subst (λ e. LeftAlone row turn s (e ∷ [])) (ap (λ d. d.event) begins) (outlasts (first_begin s b t c lab number begins before) past)

module _ {R : Type 0} (row : Meaning R) (lab : ℕ) where
  -- an outlook that starts after the last tick foretells nothing
  none_past : (ks : List Ticket) (x : R) (t : ℕ) → last < t + row.wake x → all_foretold lab ks (outlook row x t ks) ≡ []
  none_past [] x t past = refl
  none_past (k ∷ ks) x t past =
      let s = next_slot row x t k.length in
      rw (lt-leb s.start last past, lt-leb s.end last (omega arith)) (none_past ks (after_run row x k.length) s.end (omega arith))

  -- nor does what a list holds behind an outlook
  none_behind : (ks : List Ticket) (x : R) (t : ℕ) (behind : List Entry)
      → all_foretold lab ks (outlook row x t ks ++ behind) ≡ all_foretold lab ks (outlook row x t ks)
  none_behind [] x t behind = refl
  none_behind (k ∷ ks) x t behind =
      let s = next_slot row x t k.length in
      ap (λ es. foretold lab k (entry_of k s) ++ es) (none_behind ks (after_run row x k.length) s.end behind)

module _ {R T : Type 0} {row : Meaning R} (sentences : Sentences row) (turn : Turns T) (lab : ℕ) where
  -- a lab that is left alone with its tickets runs them as their outlook foretells
  runs_foretold : (ks : List Ticket) (x : R) (s : Moment R T) → HasAlone lab x ks s
      → LeftAlone row turn s (all_foretold lab ks (outlook row x s.gate.clock ks))
  runs_foretold [] x s a = over (λ u can. (can_begin_alone a sentences turn u can).2 refl)
  runs_foretold (k ∷ ks) x s a =
      let t = s.gate.clock + row.wake x in
      let c = k.length in
      let y = after_run row x c in
      let can_from : (u : ℕ) → CanBegin row turn s u → (t ≤ u) × (u ≤ last) × (k ∷ ks ≡ [] → ⊥) = can_begin_alone a sentences turn in
      let before : (u : ℕ) → u < t → CanBegin row turn s u → ⊥ = λ u early can. omega (arith, early, (can_from u can).0) in
      ⊎_elim
      (λ past.
      let none : (u : ℕ) → CanBegin row turn s u → ⊥ = λ u can. omega (arith, past, (can_from u can).0, (can_from u can).1) in
      rw (none_past row lab (k ∷ ks) x s.gate.clock past) (over none))
      (λ high.
      let b = once_begun row turn lab k s t in
      let begins = begin_alone sentences turn a t refl high in
      ⊎_elim
      (λ past.
      rw (le-leb t last high, lt-leb (t + c) last past, none_past row lab ks y (t + c) (omega arith))
      (outlasts_as row turn s b t c lab k.number begins before past))
      (λ room.
      let l = once_ended row turn lab k s t (t + c) in
      let ends = end_alone sentences turn a t refl high (t + c) (omega arith) room in
      let rest = runs_foretold ks y l (alone_again sentences turn a t refl high c (t + c) refl room) in
      rw (le-leb t last high, le-leb (t + c) last room) (runs_as row turn s b l t c lab k.number _ _ begins ends before room rest))
      (cases_lt last (t + c)))
      (cases_lt last t)

-- On a free lock, a list that is written with the outlook of a lab foretells what becomes of the lab.
pub foretells : {R T : Type 0} {row : Meaning R} → Sentences row → (turn : Turns T) (g : GateState T) (rows : List R) (lab : ℕ) (x : R)
    (list old : List Entry)
    → g.labs ≡ length rows → lab < most_labs → g.running ≡ None → slice_get rows lab ≡ Some x
    → list ≡ headed_by (outlook row x g.clock (queue_of g.waiting lab)) old
    → Foretells row turn (record { gate = g; rows = rows }) lab list
unfolding Foretells
foretells {R} {T} {row} sentences turn g rows lab x list old labs low free there is es =
    let ks = queue_of g.waiting lab in
    let s : Moment R T = record { gate = g; rows = rows } in
    let told : all_foretold lab ks (outlook row x g.clock ks) ≡ all_foretold lab ks list
    = sym (ap (all_foretold lab ks) is ∙ none_behind row lab ks x g.clock (drop (length (outlook row x g.clock ks)) old)) in
    let alone : LeftAlone row turn (only lab s) (all_foretold lab ks list)
    = subst (LeftAlone row turn (only lab s)) told (runs_foretold sentences turn lab ks x (only lab s) (alone_only s lab x labs low free there)) in (
      λ left. one_future row turn (only lab s) es (all_foretold lab ks list) left alone,
      λ same. subst (LeftAlone row turn (only lab s)) (sym same) alone,
    )

-- so it is where such a list is written if the call is granted
pub foretells_granted : {R T A E : Type 0} {row : Meaning R} → Sentences row → (turn : Turns T) (g : GateState T) (rows : List R) (lab : ℕ) (x : R)
    (list old : List Entry) (r : Result A E)
    → g.labs ≡ length rows → lab < length rows → lab < most_labs → g.running ≡ None → x ≡ slice_index_or rows lab x
    → OnOk r (list ≡ headed_by (outlook row x g.clock (queue_of g.waiting lab)) old)
    → OnOk r (Foretells row turn (record { gate = g; rows = rows }) lab list)
foretells_granted sentences turn g rows lab x list old (Ok a) labs within low free read is =
    foretells sentences turn g rows lab x list old labs low free (slice_get-get_or rows lab x within ∙ ap Some (sym read)) is
foretells_granted sentences turn g rows lab x list old (Err e) labs within low free read is = tt
