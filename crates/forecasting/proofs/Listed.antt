-- Imports of some lengths that are listed in as many places.
use Rattle.std.proofs.Common.{◌≡◌, ℕ, ◌+◌, not, ◌&&◌, List, [], ◌∷◌, ◌++◌, length, map, nat_lt, take, Ok, Err, Result, Vec, refl, ◌∙◌, sym, ap, arith}
use Rattle.std.proofs.lemmas.Bool.{not-false, le-ltb, ltb-false}
use Rattle.std.proofs.lemmas.List.{length-map}
use Rattle.std.proofs.lemmas.List.FromFn.{length-enumerate_from}
use Rattle.std.specs.List.{enumerate_from}
use Rattle.std.specs.declared.alloc.Global.{Global}
use Rattle.measures.specs.Limits.{most_waiting, is_length}
use Rattle.measures.specs.Results.{◌>>=◌}
use Rattle.measures.specs.declared.refusal.Refusal.{Refusal}
use Rattle.measures.specs.declared.refusal.Refusal.TheVariants.{LengthOutOfRange, QueueFull}
use Rattle.measures.proofs.Checks.{passed}
use Rattle.budget.specs.Meaning.{Meaning}
use Rattle.budget.specs.Imports.{are_lengths, fileable}
use Rattle.waiting.specs.Queues.{headed_by}
use Rattle.waiting.specs.declared.ticket.Ticket.{Ticket}
use Rattle.outlook.specs.Outlooks.{are_lawful, outlook, listable}
use Rattle.outlook.specs.declared.entry.Entry.{Entry}
use Rattle.outlook.proofs.Listed.{first_places, deciding_all}
use Rattle.forecast_lines.specs.declared.Fault.{Fault}
use Rattle.forecasting.specs.Lines.{or_fault, filed_ticket, filed, listed, Answers}

length-filed : (cs : List ℕ) → length (filed cs) ≡ length cs
length-filed cs = length-map (enumerate_from 0 cs) _ ∙ length-enumerate_from 0 cs

-- tickets of lawful lengths are lawful, whatever their numbers
lawful-filed : (k : ℕ) (cs : List ℕ) → are_lawful (map (λ p. filed_ticket (p.0 + 1) p.1) (enumerate_from k cs)) ≡ are_lengths cs
lawful-filed k [] = refl
lawful-filed k (c ∷ cs) = ap (λ all. is_length c && all) (lawful-filed (k + 1) cs)

-- so what can be filed can be listed in as many places
filed_listable : (cs : List ℕ) → fileable cs ≡ Ok tt → listable 0 (filed cs) (length cs) ≡ Ok tt
filed_listable cs granted =
    let (lawful, after_lengths) = passed (not (are_lengths cs)) LengthOutOfRange _ tt granted in
    let (few, _) = passed (nat_lt most_waiting (length cs)) QueueFull _ tt after_lengths in
    rw (deciding_all (filed cs) (omega (arith, ltb-false _ _ few, length-filed cs)), length-filed cs, few, lawful-filed 0 cs, not-false _ lawful, le-ltb (length cs) (length cs) (omega arith)) refl

module _ {R : Type 0} (m : Meaning R) (x : R) (cs : List ℕ) (old : List Entry) (ts : List Ticket)
    (granted : Ok tt ≡ fileable cs) (tickets : ts ≡ filed cs) (places : length old ≡ length cs) where
  -- it is never denied to list them
  pub never_denied : (r : Refusal) (answer : Result (Vec Entry Global) Fault) → Err r ≡ listable 0 ts (length old) → Answers answer (listed m x cs)
  never_denied r answer denied =
      let granted_ : Err r ≡ Ok tt =
      denied ∙ ap (λ k. listable 0 ts k) places ∙ ap (λ ts. listable 0 ts (length cs)) tickets ∙ filed_listable cs (sym granted) in
      absurd (let z : ◌≡◌ {A = ℕ} 0 1 = cc in omega arith)

  -- once the entries are written over the list, its first n places are what was to be listed
  pub listed_first : (n : ℕ) (new rest : List Entry) → new ≡ headed_by (outlook m x 0 ts) old → n ≡ length cs
      → listed m x cs ≡ Ok (take n (new ++ rest))
  listed_first n new rest written len =
      let size : n ≡ length ts = len ∙ sym (ap length tickets ∙ length-filed cs) in
      ap (λ can. or_fault (can >>= λ _. Ok (outlook m x 0 (filed cs)))) (sym granted)
      ∙ ap (λ ts. Ok (outlook m x 0 ts)) (sym tickets)
      ∙ ap (λ es. Ok es) (sym (first_places m x 0 ts new old rest written))
      ∙ ap (λ k. Ok (take k (new ++ rest))) (sym size)
