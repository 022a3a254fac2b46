-- What a host is told of a call.
use Rattle.std.specs.Prelude.{ℕ, Result, Ok, Err}
use Rattle.measures.specs.Refusals.{number_of}
use Rattle.measures.specs.declared.refusal.Refusal.{Refusal}
use Rattle.history.specs.declared.turn.Turn.{Turn}
use Rattle.history.specs.declared.turn.Turn.TheVariants.{Began, Wait, Nothing}
use Rattle.host_gates.specs.declared.answers.Told.{Told}
use Rattle.host_gates.specs.declared.answers.HostTurn.{HostTurn}
use Rattle.host_gates.specs.declared.answers.HostEnded.{HostEnded}

-- there is no gate
abbrev pub no_gate : ℕ
no_gate = 17

-- memory ran out
abbrev pub no_memory : ℕ
no_memory = 18

-- 0 where a call was granted, and else the number of its refusal
abbrev pub status : {A : Type 0} → Result A Refusal → ℕ
status (Ok a) = 0
status (Err refusal) = number_of refusal

-- nothing but how a call went
abbrev pub untold : ℕ → Told
untold s = record { status = s; number = 0 }

-- the number that was answered
abbrev pub told : Result ℕ Refusal → Told
told (Ok n) = record { status = 0; number = n }
told (Err refusal) = untold (number_of refusal)

-- nothing but how a begin went
abbrev pub no_turn : ℕ → HostTurn
no_turn s = record { status = s; kind = 0; until = 0; lab = 0; number = 0; length = 0 }

-- whose turn it is: 0 says that no ticket waits, 1 that none can begin before a tick, and 2 which import has begun
abbrev pub turn_told : Result Turn Refusal → HostTurn
turn_told (Ok Nothing) = no_turn 0
turn_told (Ok (Wait t)) = record (no_turn 0) { kind = 1; until = t }
turn_told (Ok (Began k n declared)) = record (no_turn 0) { kind = 2; lab = k; number = n; length = declared }
turn_told (Err refusal) = no_turn (number_of refusal)

-- nothing but how an end went
abbrev pub none_ended : ℕ → HostEnded
none_ended s = record { status = s; number = 0; held = 0; response = 0 }

-- what has ended
abbrev pub ended_told : Result (ℕ × ℕ × ℕ) Refusal → HostEnded
ended_told (Ok (n, held, response)) = record { status = 0; number = n; held = held; response = response }
ended_told (Err refusal) = none_ended (number_of refusal)
