-- How many ticks pass a test, and which ticks lie in runs.
use Rattle.std.proofs.Common.{◌≡◌, ℕ, zero, suc, ◌+◌, ◌<◌, ◌≤◌, Bool, true, false, not, ◌||◌, List, [], ◌∷◌, All, refl, sym, ap, ◌∙◌, arith, ⊎_elim}
use Rattle.std.specs.List.{range_with_len}
use Rattle.std.proofs.lemmas.Bool.{cases_Bool}
use Rattle.std.proofs.lemmas.List.Elements.{All-head, All-tail}
use Rattle.std.proofs.lemmas.List.Sums.{sum_by-cons}
use Rattle.history.specs.Logs.{Run, is_inside, is_in_some, ticks_with}

module _ (p : ℕ → Bool) where
  ticks_with-zero : (a : ℕ) → ticks_with p a 0 ≡ 0
  unfolding ticks_with
  ticks_with-zero a = refl

  -- the first tick passes
  ticks_with-yes : (a n : ℕ) → p a ≡ true → ticks_with p a (suc n) ≡ suc (ticks_with p (a + 1) n)
  unfolding ticks_with
  ticks_with-yes a n passes = sum_by-cons _ a (range_with_len (a + 1) n) ∙ rw passes (omega arith)

  -- the first tick does not pass
  ticks_with-no : (a n : ℕ) → p a ≡ false → ticks_with p a (suc n) ≡ ticks_with p (a + 1) n
  unfolding ticks_with
  ticks_with-no a n fails = sum_by-cons _ a (range_with_len (a + 1) n) ∙ rw fails (omega arith)

  -- the ticks in two parts, of which the second begins at b
  ticks_from : (a b n m : ℕ) → b ≡ a + n → ticks_with p a (n + m) ≡ ticks_with p a n + ticks_with p b m
  ticks_from a b zero m at =
      let from : b ≡ a = omega (arith, at) in
      let none : 0 + m ≡ m = omega arith in
      ap (ticks_with p a) none ∙ ap (λ k. ticks_with p k m) (sym from) ∙ omega (arith, ticks_with-zero a)
  ticks_from a b (suc n) m at =
      let more : suc n + m ≡ suc (n + m) = omega arith in
      let rest = ticks_from (a + 1) b n m (omega (arith, at)) in
      ap (ticks_with p a) more
      ∙ ⊎_elim
      (λ yes. omega (arith, rest, ticks_with-yes a (n + m) yes, ticks_with-yes a n yes))
      (λ no. omega (arith, rest, ticks_with-no a (n + m) no, ticks_with-no a n no))
      (cases_Bool (p a))

  pub ticks_in_two : (a n m : ℕ) → ticks_with p a (n + m) ≡ ticks_with p a n + ticks_with p (a + n) m
  ticks_in_two a n m = ticks_from a (a + n) n m refl

  pub no_ticks : (a n : ℕ) → ((k : ℕ) → a ≤ k → k < a + n → p k ≡ false) → ticks_with p a n ≡ 0
  no_ticks a zero none = ticks_with-zero a
  no_ticks a (suc n) none =
      ticks_with-no a n (none a (omega arith) (omega arith))
      ∙ no_ticks (a + 1) n (λ k low high. none k (omega arith) (omega arith))

-- each tick passes the test or its opposite
pub ticks_with-not : (p : ℕ → Bool) (a n : ℕ) → n ≡ ticks_with p a n + ticks_with (λ k. not (p k)) a n
ticks_with-not p a zero = omega (arith, ticks_with-zero p a, ticks_with-zero (λ k. not (p k)) a)
ticks_with-not p a (suc n) =
    let rest = ticks_with-not p (a + 1) n in
    ⊎_elim
    (λ yes. omega (arith, rest, ticks_with-yes p a n yes, ticks_with-no (λ k. not (p k)) a n (ap not yes)))
    (λ no. omega (arith, rest, ticks_with-no p a n no, ticks_with-yes (λ k. not (p k)) a n (ap not no)))
    (cases_Bool (p a))

pub same_ticks : (p q : ℕ → Bool) (a n : ℕ) → ((k : ℕ) → a ≤ k → k < a + n → p k ≡ q k) → ticks_with p a n ≡ ticks_with q a n
same_ticks p q a zero same = ticks_with-zero p a ∙ sym (ticks_with-zero q a)
same_ticks p q a (suc n) same =
    let here = same a (omega arith) (omega arith) in
    let rest = same_ticks p q (a + 1) n (λ k low high. same k (omega arith) (omega arith)) in
    ⊎_elim
    (λ yes. ticks_with-yes p a n yes ∙ ap suc rest ∙ sym (ticks_with-yes q a n (sym here ∙ yes)))
    (λ no. ticks_with-no p a n no ∙ rest ∙ sym (ticks_with-no q a n (sym here ∙ no)))
    (cases_Bool (p a))

pub at_most : (p : ℕ → Bool) (a n : ℕ) → ticks_with p a n ≤ n
at_most p a n = omega (arith, ticks_with-not p a n)

-- where each tick that passes the one test passes the other too
pub fewer_ticks : (p q : ℕ → Bool) (a n : ℕ) → ((k : ℕ) → p k ≡ true → q k ≡ true) → ticks_with p a n ≤ ticks_with q a n
fewer_ticks p q a zero more = omega (arith, ticks_with-zero p a)
fewer_ticks p q a (suc n) more =
    let rest = fewer_ticks p q (a + 1) n more in
    ⊎_elim
    (λ yes. omega (arith, rest, ticks_with-yes p a n yes, ticks_with-yes q a n (more a yes)))
    (λ no.
    ⊎_elim
    (λ other. omega (arith, rest, ticks_with-no p a n no, ticks_with-yes q a n other))
    (λ other. omega (arith, rest, ticks_with-no p a n no, ticks_with-no q a n other))
    (cases_Bool (q a)))
    (cases_Bool (p a))

-- what passes either test passes the one or the other
pub ticks_with-or : (p q : ℕ → Bool) (a n : ℕ) → ticks_with (λ k. p k || q k) a n ≤ ticks_with p a n + ticks_with q a n
ticks_with-or p q a zero = omega (arith, ticks_with-zero (λ k. p k || q k) a)
ticks_with-or p q a (suc n) =
    let r : ℕ → Bool = λ k. p k || q k in
    let rest : ticks_with r (a + 1) n ≤ ticks_with p (a + 1) n + ticks_with q (a + 1) n = ticks_with-or p q (a + 1) n in
    ⊎_elim
    (λ one.
    let either : r a ≡ true = rw one refl in
    ⊎_elim
    (λ other. omega (arith, ticks_with-yes r a n either, ticks_with-yes p a n one, ticks_with-yes q a n other))
    (λ other. omega (arith, ticks_with-yes r a n either, ticks_with-yes p a n one, ticks_with-no q a n other))
    (cases_Bool (q a)))
    (λ one.
    let either : r a ≡ q a = rw one refl in
    ⊎_elim
    (λ other. omega (arith, ticks_with-yes r a n (either ∙ other), ticks_with-no p a n one, ticks_with-yes q a n other))
    (λ other. omega (arith, ticks_with-no r a n (either ∙ other), ticks_with-no p a n one, ticks_with-no q a n other))
    (cases_Bool (q a)))
    (cases_Bool (p a))

pub is_in_some-cons : (r : Run) (rs : List Run) (k : ℕ) → is_in_some (r ∷ rs) k ≡ (is_inside k r || is_in_some rs k)
unfolding is_in_some
is_in_some-cons r rs k = refl

pub is_in_none : (rs : List Run) (t k : ℕ) → All (λ r. r.to ≤ t) rs → t ≤ k → is_in_some rs k ≡ false
unfolding is_in_some
is_in_none [] t k past from = refl
is_in_none (r ∷ rs) t k past from =
    let over : r.to ≤ t = All-head (λ r. r.to ≤ t) r rs past in
    let rest : is_in_some rs k ≡ false = is_in_none rs t k (All-tail (λ r. r.to ≤ t) r rs past) from in
    grind (arith, over, rest)

-- no tick lies in runs that ended before it
pub no_ticks_after : (rs : List Run) (t a n : ℕ) → All (λ r. r.to ≤ t) rs → t ≤ a → ticks_with (is_in_some rs) a n ≡ 0
no_ticks_after rs t a n past from = no_ticks (is_in_some rs) a n (λ k low high. is_in_none rs t k past (omega arith))
