-- What a host's row means: it is read as a row of one of the two rules, and behaves as that row.
use Rattle.std.specs.Prelude.{ℕ, Bool, true, false, not, pos, ◌==◌, Result, Ok, if◌then◌else◌}
use Rattle.measures.specs.Results.{◌>>=◌}
use Rattle.measures.specs.declared.refusal.Refusal.{Refusal}
use Rattle.budget.specs.Meaning.{Meaning}
use Rattle.server.specs.Row as server
use Rattle.server.specs.declared.ServerRow.{ServerRow}
use Rattle.spaced.specs.Row as spaced
use Rattle.spaced.specs.declared.SpacedRow.{SpacedRow}
use Rattle.mixed.specs.Row.{mixed}
use Rattle.mixed.specs.declared.MixedRow.{MixedRow}
use Rattle.mixed.specs.declared.MixedRow.TheVariants.{Server, Spaced}
use Rattle.host_rows.specs.declared.HostRow.{HostRow}

-- rule 0 is that of a server row; 1 and, as the nearest lawful one, every larger number is that of a spaced row
abbrev pub is_server : HostRow → Bool
is_server x = x.rule == 0

-- a mark that is stored: 0 is no; 1 and, as the nearest lawful one, every larger number is yes
abbrev pub mark_of : ℕ → Bool
mark_of n = not (n == 0)

-- how a mark is stored
abbrev pub as_mark : Bool → ℕ
as_mark able = if able then 1 else 0

-- the row that is read, where it is a server row or else a spaced row
abbrev pub read_as : Bool → HostRow → MixedRow
read_as true x = Server (record { rate = x.rate; ceiling = x.ceiling; threshold = x.threshold; level = x.level; able = mark_of x.able })
read_as false x = Spaced (record { rate = x.rate; left = x.left })

-- the row that is read
abbrev pub held : HostRow → MixedRow
held x = read_as (is_server x) x

-- what changes of a row is stored, and nothing else: the level and the mark of a server row, and the ticks left of a spaced row
abbrev pub stored : HostRow → MixedRow → HostRow
stored x (Server r) = record x { level = r.level; able = as_mark r.able }
stored x (Spaced r) = record x { left = r.left }

abbrev pub host : Meaning HostRow
host = record {
  level = λ x. mixed.level (held x);
  wake = λ x. mixed.wake (held x);
  able = λ x. mixed.able (held x);
  rate = λ x. mixed.rate (held x);
  ceiling = λ x. mixed.ceiling (held x);
  threshold = λ x. mixed.threshold (held x);
  restarted = λ x. stored x (mixed.restarted (held x));
  rested = λ x d. stored x (mixed.rested (held x) d);
  ended = λ x c. stored x (mixed.ended (held x) c);
}

-- a host's row that is read as this server row
abbrev pub of_server : ServerRow → HostRow
of_server r = record { rule = 0; rate = r.rate; ceiling = r.ceiling; threshold = r.threshold; level = r.level; able = as_mark r.able; left = 0 }

-- a host's row that is read as this spaced row
abbrev pub of_spaced : SpacedRow → HostRow
of_spaced r = record { rule = 1; rate = r.rate; ceiling = 0; threshold = 0; level = pos 0; able = 0; left = r.left }

-- a new server row, or the first refusal
abbrev pub made_server : ℕ → ℕ → ℕ → Result HostRow Refusal
made_server rate ceiling threshold = server.made rate ceiling threshold >>= λ r. Ok (of_server r)

-- a new spaced row, or the refusal
abbrev pub made_spaced : ℕ → Result HostRow Refusal
made_spaced rate = spaced.made rate >>= λ r. Ok (of_spaced r)
