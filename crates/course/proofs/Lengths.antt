-- Every ticket that waits has a lawful declared length, whatever happens by a plan.
use Rattle.std.proofs.Common.{◌≡◌, ℕ, ◌+◌, ◌≤◌, List, fold, slice_index_or, Ok, Result, option_map, option_and_then, Option, Some, None, true, refl, ap, subst, ◌∙◌, arith}
use Rattle.std.proofs.lemmas.Bool.{leb-true, not-false, and_parts}
use Rattle.std.proofs.lemmas.Option.{none-some, same_Some, slice_get_within, get_or_from_slice_get}
use Rattle.measures.specs.Limits.{is_length}
use Rattle.measures.specs.declared.refusal.Refusal.{Refusal}
use Rattle.budget.specs.Meaning.{Meaning}
use Rattle.turns.specs.Turns.{Turns}
use Rattle.waiting.specs.Queues.{queue_of}
use Rattle.waiting.specs.declared.ticket.Ticket.{Ticket}
use Rattle.history.specs.declared.turn.Turn.{Turn}
use Rattle.history.specs.declared.turn.Turn.TheVariants.{Began}
use Rattle.history.specs.Gates.{GateState, Moment, rested_to}
use Rattle.history.specs.Standing.{first_ticket, next_import}
use Rattle.history.specs.Calls.{file_checks, next_ticket, with_begun, begins}
use Rattle.history.specs.Histories.{Call, ToFile, ToWithdraw, ToBegin, ToEnd, Begin, does}
use Rattle.history.proofs.Effects.{granted}
use Rattle.history.proofs.Keeping.{none_told, same_begun}
use Rattle.outlook.specs.Outlooks.{AllLawful}
use Rattle.outlook.proofs.Lawful.{lawful_come, lawful_begun, lawful_withdrawn}
use Rattle.plan.specs.Plans.{Lists}
use Rattle.course.specs.Asking.{asked_at}
use Rattle.course.specs.Course.{Stage, ask, end_due, tick_passed}
use Rattle.course.proofs.Kept.{step_keeps, asked_keeps, tick_keeps}
use Rattle.course.proofs.Later.{BeginDoes, was_denied, none_began, run_began, begin_does}

-- where an import begins next, the declared length of its ticket is lawful
next_lawful : (qs : List (List Ticket)) → AllLawful qs → (o : Option ℕ) (k : ℕ) (ticket : Ticket)
    → option_and_then {U = ℕ × Ticket} (λ i. option_map {U = ℕ × Ticket} (λ u. (i, u)) (first_ticket qs i)) o ≡ Some (k, ticket)
    → is_length ticket.length ≡ true
next_lawful qs all None k ticket e = absurd (none-some (k, ticket) e)
next_lawful qs all (Some i) k ticket e = of_first (first_ticket qs i) refl e
  where
    of_first : (o : Option Ticket) → first_ticket qs i ≡ o → option_map {U = ℕ × Ticket} (λ u. (i, u)) o ≡ Some (k, ticket)
        → is_length ticket.length ≡ true
    of_first None first e = absurd (none-some (k, ticket) e)
    of_first (Some u) first e =
        let q = queue_of qs i in
        let same : slice_index_or q 0 u ≡ ticket = get_or_from_slice_get q 0 u u first ∙ ap (λ pair. pair.1) (same_Some (i, u) (k, ticket) e) in
        subst (λ v. is_length v.length ≡ true) same (all.each i 0 u (slice_get_within q 0 u first))

module _ {R T : Type 0} (row : Meaning R) (turn : Turns T) where
  begun_lawful : (g : GateState T) (next : Option (ℕ × Ticket)) → AllLawful g.waiting → AllLawful (with_begun turn g next).waiting
  begun_lawful g None all = all
  begun_lawful g (Some (k, ticket)) all = lawful_begun g.waiting _ k all refl

  call_lawful : (c : Call) (m : Moment R T) → AllLawful m.gate.waiting → AllLawful (does row turn c m.gate m.rows).left.gate.waiting
  call_lawful (ToFile t lab declared due) m all =
      let g = m.gate in
      step_keeps (λ h. AllLawful h.waiting) g _ m.rows _ _ all (λ n filed.
      let ((table, (time, (no_lab, (length, rest)))), same) = granted (file_checks g m.rows t lab declared due) (g.given + 1) n filed in
      lawful_come g.waiting _ (next_ticket g t lab declared due) true all (not-false _ length) refl)
  call_lawful (ToWithdraw t number) m all =
      step_keeps (λ h. AllLawful h.waiting) _ _ _ _ _ all (λ lab gone. lawful_withdrawn m.gate.waiting _ number all refl)
  call_lawful (ToBegin t) m all =
      let g = record m.gate { clock = t } in
      let next = next_import row turn g (rested_to row m.gate m.rows t) in
      step_keeps (λ h. AllLawful h.waiting) m.gate (with_begun turn g next) _ _ _ all (λ told e. begun_lawful g next all)
  call_lawful (ToEnd t) m all = step_keeps (λ h. AllLawful h.waiting) _ _ _ _ _ all (λ told e. all)

  -- every ticket that waits has a lawful declared length, also once the plan has asked for what it asks for at this tick
  pub lawful_asked : (p : Lists) (s : Stage R T) (t : ℕ) → AllLawful s.moment.gate.waiting
      → AllLawful (fold (ask row turn) (end_due row turn t s) (asked_at p t)).moment.gate.waiting
  lawful_asked p s t all = asked_keeps row turn (λ g. AllLawful g.waiting) call_lawful p s t all

  -- and once the tick has passed
  pub lawful_kept : (p : Lists) (s : Stage R T) (t : ℕ) → AllLawful s.moment.gate.waiting
      → AllLawful (tick_passed row turn p t s).moment.gate.waiting
  lawful_kept p s t all = tick_keeps row turn (λ g. AllLawful g.waiting) call_lawful p s t all

  -- the declared length of an import that begins is not 0, so it is not to end at the tick at which it begins
  pub began_lawful : (s : Stage R T) (t k n c : ℕ) → AllLawful s.moment.gate.waiting
      → (begins row turn s.moment.gate s.moment.rows t).answer ≡ Ok (Began k n c) → 1 ≤ c
  began_lawful s t k n c all = above (begin_does row turn s.moment t)
    where
      above : {answer : Result Turn Refusal} {left : Moment R T} → BeginDoes row turn s.moment t answer left → answer ≡ Ok (Began k n c) → 1 ≤ c
      above (was_denied r) e = absurd (let z : ◌≡◌ {A = ℕ} 0 1 = cc in omega arith)
      above (none_began passed none) e = absurd (none_told t _ k n c (same_begun t t _ _ (ap (Begin t) e)).1)
      above (run_began j ticket passed next) e =
          let same : ticket.length ≡ c = cc in
          let lawful = next_lawful s.moment.gate.waiting all _ j ticket next in
          omega (arith, same, leb-true 1 ticket.length (and_parts _ _ lawful).0)
