-- A host's row keeps the sentences, since the row that it is read as does.
use Rattle.std.specs.Prelude.{◌≡◌, ℕ, ◌+◌, Bool, true, false}
use Rattle.std.proofs.Common.{refl, sym, ap, ◌∙◌}
use Rattle.budget.specs.Meaning.{Sentences, SameTerms}
use Rattle.server.specs.declared.ServerRow.{ServerRow}
use Rattle.mixed.specs.Row.{mixed}
use Rattle.mixed.specs.Keeps.{keeps as of_mixed}
use Rattle.mixed.specs.declared.MixedRow.{MixedRow}
use Rattle.mixed.specs.declared.MixedRow.TheVariants.{Server, Spaced}
use Rattle.host_rows.specs.Row.{is_server, mark_of, as_mark, read_as, held, stored, host}
use Rattle.host_rows.specs.declared.HostRow.{HostRow}

-- a mark that was stored is read as it was
marked : (b : Bool) → mark_of (as_mark b) ≡ b
marked true = refl
marked false = refl

-- the rule of a row stays
same_rule : (x : HostRow) (m : MixedRow) → is_server (stored x m) ≡ is_server x
same_rule x (Server r) = refl
same_rule x (Spaced r) = refl

-- a row of the same terms with another level and mark is read as that, once it was stored
server_read : (x : HostRow) (r : ServerRow) → r.rate ≡ x.rate → r.ceiling ≡ x.ceiling → r.threshold ≡ x.threshold
    → read_as true (stored x (Server r)) ≡ Server r
server_read x r rate ceiling threshold = λ i.
    Server (record { rate = sym rate i; ceiling = sym ceiling i; threshold = sym threshold i; level = r.level; able = marked r.able i })

-- what a change leaves is read as what the change leaves of the row that was read
restarted_read : (b : Bool) (x : HostRow) → read_as b (stored x (mixed.restarted (read_as b x))) ≡ mixed.restarted (read_as b x)
restarted_read true x = server_read x _ refl refl refl
restarted_read false x = refl

rested_read : (b : Bool) (x : HostRow) (d : ℕ) → read_as b (stored x (mixed.rested (read_as b x) d)) ≡ mixed.rested (read_as b x) d
rested_read true x d = server_read x _ refl refl refl
rested_read false x d = refl

ended_read : (b : Bool) (x : HostRow) (c : ℕ) → read_as b (stored x (mixed.ended (read_as b x) c)) ≡ mixed.ended (read_as b x) c
ended_read true x c = server_read x _ refl refl refl
ended_read false x c = refl

-- the same of the rule that the row has
by_rule : (x : HostRow) (m : MixedRow) → read_as (is_server x) (stored x m) ≡ m → held (stored x m) ≡ m
by_rule x m read = ap (λ b. read_as b (stored x m)) (same_rule x m) ∙ read

pub restarted_held : (x : HostRow) → held (host.restarted x) ≡ mixed.restarted (held x)
restarted_held x = by_rule x (mixed.restarted (held x)) (restarted_read (is_server x) x)

pub rested_held : (x : HostRow) (d : ℕ) → held (host.rested x d) ≡ mixed.rested (held x) d
rested_held x d = by_rule x (mixed.rested (held x) d) (rested_read (is_server x) x d)

pub ended_held : (x : HostRow) (c : ℕ) → held (host.ended x c) ≡ mixed.ended (held x) c
ended_held x c = by_rule x (mixed.ended (held x) c) (ended_read (is_server x) x c)

-- of two rests only what the second leaves is stored
stored_twice : (b : Bool) (x : HostRow) (d e : ℕ)
    → stored (stored x (mixed.rested (read_as b x) d)) (mixed.rested (read_as b x) e) ≡ stored x (mixed.rested (read_as b x) e)
stored_twice true x d e = refl
stored_twice false x d e = refl

same_terms : (x y : HostRow) (m : MixedRow) → held y ≡ m → SameTerms mixed (held x) m → SameTerms host x y
same_terms x y m is t = record { rate = ap mixed.rate is ∙ t.rate; ceiling = ap mixed.ceiling is ∙ t.ceiling; threshold = ap mixed.threshold is ∙ t.threshold }

pub keeps : Sentences host
keeps = record {
  rate_low = λ x. of_mixed.rate_low (held x);
  rate_high = λ x. of_mixed.rate_high (held x);
  ceiling_high = λ x. of_mixed.ceiling_high (held x);
  threshold_high = λ x. of_mixed.threshold_high (held x);
  restart_terms = λ x. same_terms x _ _ (restarted_held x) (of_mixed.restart_terms (held x));
  rest_terms = λ x d. same_terms x _ _ (rested_held x d) (of_mixed.rest_terms (held x) d);
  end_terms = λ x c. same_terms x _ _ (ended_held x c) (of_mixed.end_terms (held x) c);
  below_ceiling = λ x. of_mixed.below_ceiling (held x);
  solvent = λ x. of_mixed.solvent (held x);
  awake = λ x. of_mixed.awake (held x);
  rest_level = λ x d within. rw (rested_held x d) (of_mixed.rest_level (held x) d within);
  rest_wake = λ x d within. ap mixed.wake (rested_held x d) ∙ of_mixed.rest_wake (held x) d within;
  end_level = λ x c within able. rw (ended_held x c) (of_mixed.end_level (held x) c within able);
  restart_wake = λ x. rw (restarted_held x) (of_mixed.restart_wake (held x));
  end_wake = λ x c within able. rw (ended_held x c) (of_mixed.end_wake (held x) c within able);
  wake_high = λ x. of_mixed.wake_high (held x);
  rest_rest = λ x d e within. ap (λ m. stored (host.rested x d) (mixed.rested m e)) (rested_held x d)
      ∙ ap (stored (host.rested x d)) (of_mixed.rest_rest (held x) d e within)
      ∙ stored_twice (is_server x) x d (d + e);
}
