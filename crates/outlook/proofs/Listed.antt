-- Entries written one after another into the first places of a list.
use Rattle.std.proofs.Common.{◌≡◌, ℕ, suc, ◌+◌, ◌*◌, ◌^◌, ◌<◌, ◌≤◌, true, List, [], ◌∷◌, ◌++◌, length, get_or, take, drop, set, sym, refl, ap, ◌∙◌, append_assoc, arith, drop-set-lt, take_at, append-nil, subst}
use Rattle.std.proofs.lemmas.List.{take_more_set, drop_more, at_drop_more, at_drop_all, take-append-drop, take_all}
use Rattle.std.proofs.lemmas.Bool.{and_parts, leb-true}
use Rattle.std.proofs.lemmas.List.Sums.{AllPass-from_list_all}
use Rattle.measures.specs.Limits.{last, most_waiting, greatest_length, is_length}
use Rattle.budget.specs.Meaning.{Meaning, Sentences}
use Rattle.budget.specs.Imports.{next_slot, after_run, schedule, AllSoonest}
use Rattle.waiting.specs.Queues.{headed_by}
use Rattle.budget.proofs.Resting.{wake_limit, all_soonest}
use Rattle.waiting.specs.declared.ticket.Ticket.{Ticket}
use Rattle.outlook.specs.declared.entry.Entry.{Entry}
use Rattle.outlook.specs.Outlooks.{lengths, slots, outlook, are_lawful, deciding, AreSoonest, Ran}

-- each of lawful tickets is lawful
pub lawful_at : (ts : List Ticket) (i : ℕ) (d : Ticket) → are_lawful ts ≡ true → i < length ts → (get_or ts i d).length ≤ greatest_length
lawful_at ts i d all h = leb-true _ _ (and_parts _ _ (AllPass-from_list_all (λ t. is_length t.length) ts all i d h)).1

-- where no more are there than can be listed, those that decide are all
pub deciding_all : (ts : List Ticket) → length ts ≤ most_waiting → deciding ts ≡ ts
unfolding deciding
deciding_all ts few = take_all (most_waiting + 1) ts (omega arith)

pub lawful_all : (ts : List Ticket) → length ts ≤ most_waiting → are_lawful (deciding ts) ≡ true → are_lawful ts ≡ true
lawful_all ts few lawful = subst (λ us. are_lawful us ≡ true) (deciding_all ts few) lawful

module _ {R : Type 0} (m : Meaning R) where
  -- the slots that are told are those that come next
  slots-outlook : (x : R) (t : ℕ) (ts : List Ticket) → slots (outlook m x t ts) ≡ schedule m x t (lengths ts)
  slots-outlook x t [] = refl
  slots-outlook x t (k ∷ ks) = ap (λ ss. next_slot m x t k.length ∷ ss) (slots-outlook (after_run m x k.length) (next_slot m x t k.length).end ks)

  -- and there is an entry for each ticket
  length-outlook : (x : R) (t : ℕ) (ts : List Ticket) → length (outlook m x t ts) ≡ length ts
  length-outlook x t [] = refl
  length-outlook x t (k ∷ ks) = ap suc (length-outlook (after_run m x k.length) (next_slot m x t k.length).end ks)

  -- the first places of a list that the entries are written over
  pub first_places : (x : R) (t : ℕ) (ts : List Ticket) (now old rest : List Entry) → now ≡ headed_by (outlook m x t ts) old
      → take (length ts) (now ++ rest) ≡ outlook m x t ts
  first_places x t ts now old rest written =
      let list = outlook m x t ts in
      rw (written, append_assoc) (take_at list (drop (length list) old ++ rest) (length ts) (length-outlook x t ts))

-- The entries that are listed so far, in the first i places of the list, and those that the tickets left will have are all; the other places
-- are as they were. The row is now y, and has come to tick u.
unfoldable pub Listed : {R : Type 0} → Meaning R → R → ℕ → List Ticket → List Entry → List Entry → R → ℕ → ℕ → Type 0
Listed m x t ts old list y u i =
    (take i list ++ outlook m y u (drop i ts) ≡ outlook m x t ts)
    × (drop i list ≡ drop i old)
    × (u ≤ last + i * (1000 * last + greatest_length))

tails_equal : {A : Type 0} {x y : A} {xs ys : List A} → x ∷ xs ≡ y ∷ ys → xs ≡ ys
tails_equal e = cc

module _ {R : Type 0} {m : Meaning R} (s : Sentences m) where
  -- none is listed
  pub none_listed : (x : R) (t : ℕ) (ts : List Ticket) (old : List Entry) → t ≤ last → Listed m x t ts old old x t 0
  unfolding Listed
  none_listed x t ts old tick = (refl, refl, omega arith)

  -- the end of the next can be told
  pub end_fits : (x y : R) (t u i : ℕ) (ts : List Ticket) (old list : List Entry) (d : Ticket)
      → i < length ts → length ts ≤ most_waiting → are_lawful ts ≡ true
      → Listed m x t ts old list y u i → u + m.wake y + (get_or ts i d).length < 2 ^ 64
  unfolding Listed
  end_fits x y t u i ts old list d more few lawful so_far = omega (arith, so_far.2, wake_limit s y, lawful_at ts i d lawful more)

  -- one more is listed
  pub one_listed : (x y z : R) (t u v i : ℕ) (ts : List Ticket) (old list : List Entry) (d : Ticket) (e : Entry)
      → i < length ts → length ts ≤ length old → length list ≡ length old → are_lawful ts ≡ true
      → Listed m x t ts old list y u i
      → Ran m y u (get_or ts i d) e z v
      → Listed m x t ts old (set list i e) z v (i + 1)
  unfolding Listed Ran
  one_listed x y z t u v i ts old list d e more room same lawful so_far ran =
      let later = outlook m z v (drop (i + 1) ts) in
      let to_come : outlook m y u (drop i ts) ≡ e ∷ later = rw (ran.0, ran.1, ran.2) (at_drop_more (outlook m y u) ts i d more) in
      let entries : take (i + 1) (set list i e) ++ later ≡ outlook m x t ts =
      ap (λ es. es ++ later) (take_more_set list i e (omega arith))
      ∙ append_assoc (take i list) (e ∷ []) later
      ∙ ap (λ es. take i list ++ es) (sym to_come)
      ∙ so_far.0 in
      let others : drop (i + 1) (set list i e) ≡ drop (i + 1) old =
      drop-set-lt (i + 1) list i e (omega arith)
      ∙ tails_equal (sym (drop_more list i e (omega arith)) ∙ so_far.1 ∙ drop_more old i e (omega arith)) in
      (entries, others, omega (arith, so_far.2, ran.2, wake_limit s y, lawful_at ts i d lawful more))

  -- and in the end all are, and written over the first places
  pub all_listed : (x y : R) (t u i : ℕ) (ts : List Ticket) (old list : List Entry)
      → length ts ≤ i → i ≤ length ts → Listed m x t ts old list y u i → list ≡ headed_by (outlook m x t ts) old
  unfolding Listed
  all_listed x y t u i ts old list past within so_far =
      let none = at_drop_all (outlook m y u) ts i past in
      let done : take i list ≡ outlook m x t ts =
      sym (append-nil _) ∙ ap (λ es. take i list ++ es) (sym none) ∙ so_far.0 in
      let at_end : length (outlook m x t ts) ≡ i = length-outlook m x t ts ∙ omega arith in
      sym (take-append-drop i list)
      ∙ ap (λ es. es ++ drop i list) done
      ∙ ap (λ es. outlook m x t ts ++ es) so_far.1
      ∙ ap (λ n. outlook m x t ts ++ drop n old) (sym at_end)

  -- what the entries that are written tell is the soonest
  pub listed_soonest : (x : R) (t : ℕ) (ts : List Ticket) (new old : List Entry)
      → new ≡ headed_by (outlook m x t ts) old → AreSoonest m x t ts new
  listed_soonest x t ts new old written =
      let list = outlook m x t ts in
      let first : take (length ts) new ≡ list =
      ap (take (length ts)) written ∙ take_at list (drop (length list) old) (length ts) (length-outlook m x t ts) in
      subst (AllSoonest m x t (lengths ts)) (sym (ap slots first ∙ slots-outlook m x t ts)) (all_soonest s x t (lengths ts))
