-- The order of the tickets of a lab.
use Rattle.std.specs.Prelude.{◌≡◌, Bool, true, false}
use Rattle.std.proofs.Common.{arith}
use Rattle.earliest.specs.Numbers.{first_by, chained, decided}
use Rattle.earliest.specs.Order.{IsStrictTotalOrder}
use Rattle.waiting.specs.declared.ticket.Ticket.{Ticket}

-- by key, then by number, then by everything else that a ticket holds
unfoldable pub ticket_before : Ticket → Ticket → Bool
ticket_before a b =
    first_by a.key b.key (first_by a.number b.number (first_by a.lab b.lab (first_by a.filed b.filed (first_by a.length b.length (first_by a.due b.due false)))))

-- two tickets of which neither comes before the other are equal in every number
same : (x y : Ticket) → ticket_before x y ≡ false → ticket_before y x ≡ false → x ≡ y
unfolding ticket_before
same x y first second =
    let key = decided _ _ _ _ first second in
    let number = decided _ _ _ _ key.1 key.2 in
    let lab = decided _ _ _ _ number.1 number.2 in
    let filed = decided _ _ _ _ lab.1 lab.2 in
    let length = decided _ _ _ _ filed.1 filed.2 in
    let due = decided _ _ _ _ length.1 length.2 in
    λ i. record { key = key.0 i; number = number.0 i; lab = lab.0 i; filed = filed.0 i; length = length.0 i; due = due.0 i }

-- what holds of three numbers in turn holds of three tickets
chain : (x y z : Ticket) → ticket_before x y ≡ true → ticket_before y z ≡ true → ticket_before x z ≡ true
unfolding ticket_before
chain x y z first second =
    let due = chained x.due y.due z.due _ _ _ (λ never _. never) in
    let length = chained x.length y.length z.length _ _ _ due in
    let filed = chained x.filed y.filed z.filed _ _ _ length in
    let lab = chained x.lab y.lab z.lab _ _ _ filed in
    let number = chained x.number y.number z.number _ _ _ lab in
    chained x.key y.key z.key _ _ _ number first second

-- no ticket comes before itself
itself : (x : Ticket) → ticket_before x x ≡ false
unfolding ticket_before first_by
itself x = grind arith

-- it is a strict total order
pub ticket_order : IsStrictTotalOrder ticket_before
ticket_order = record {
  irreflexive = itself;
  transitive = chain;
  total = same;
}
