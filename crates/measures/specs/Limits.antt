-- The limits of the whole product, and which numbers lie within them.
use Rattle.std.specs.Prelude.{ℕ, ◌-◌, min, max, Bool, ◌&&◌, nat_le}

-- ticks count from 0 to this one
abbrev pub last : ℕ
last = 1000000000000

-- a rate is in thousandths of a tick per tick
abbrev pub least_rate : ℕ
least_rate = 1

abbrev pub greatest_rate : ℕ
greatest_rate = 999

-- a ceiling is in thousandths of a tick
abbrev pub greatest_ceiling : ℕ
greatest_ceiling = 1000000000

abbrev pub most_labs : ℕ
most_labs = 64

-- labs are numbered from 0 to this one
abbrev pub greatest_lab_number : ℕ
greatest_lab_number = most_labs - 1

-- waiting tickets of one lab
abbrev pub most_waiting : ℕ
most_waiting = 16

-- the declared length of an import, in ticks
abbrev pub greatest_length : ℕ
greatest_length = 1000000

-- the rates of all labs together, so that curators keep the rest
abbrev pub greatest_rate_sum : ℕ
greatest_rate_sum = 900

-- tickets given between one opening and the next
abbrev pub most_tickets : ℕ
most_tickets = 1000000000000

-- filings of one plan
abbrev pub most_filings : ℕ
most_filings = 1024

-- withdrawals of one plan
abbrev pub most_withdrawals : ℕ
most_withdrawals = 256

-- bytes in which a plan is written
abbrev pub most_plan_bytes : ℕ
most_plan_bytes = 65536

abbrev pub is_tick : ℕ → Bool
is_tick t = nat_le t last

abbrev pub is_rate : ℕ → Bool
is_rate r = nat_le least_rate r && nat_le r greatest_rate

-- a stored rate out of its range is read as the nearest lawful one
abbrev pub nearest_rate : ℕ → ℕ
nearest_rate r = max least_rate (min greatest_rate r)

abbrev pub is_ceiling : ℕ → Bool
is_ceiling c = nat_le c greatest_ceiling

abbrev pub is_length : ℕ → Bool
is_length c = nat_le 1 c && nat_le c greatest_length

-- as many labs as a gate may have
abbrev pub is_lab_count : ℕ → Bool
is_lab_count n = nat_le 1 n && nat_le n most_labs

-- a number that a lab may have
abbrev pub is_lab_number : ℕ → Bool
is_lab_number k = nat_le k greatest_lab_number

abbrev pub is_rate_sum : ℕ → Bool
is_rate_sum n = nat_le n greatest_rate_sum

-- a lab with so many waiting tickets takes no more
abbrev pub is_full : ℕ → Bool
is_full n = nat_le most_waiting n

-- a gate that has given so many tickets gives no more
abbrev pub is_all_given : ℕ → Bool
is_all_given n = nat_le most_tickets n
