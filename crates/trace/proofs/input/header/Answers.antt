-- By how many bytes there are, and by the capacity in the first two.
use Rattle.trace.proofs.Beginning.{header_cut, header_large, header_begins}
use Rattle.trace.proofs.input.header.Goals as goal

pub returns-then-first-lt-HEADER : goal.returns-then-first-lt-HEADER
returns-then-first-lt-HEADER c = header_cut _ c.if-first-lt-HEADER.true

pub returns-then-capacity-gt256 : goal.returns-then-capacity-gt256
returns-then-capacity-gt256 c = header_large _ _ c.if-first-lt-HEADER.false c.two_bytes-capacity.ensures c.if-capacity-gt256.true

pub returns : goal.returns
returns c = header_begins _ _ c.if-first-lt-HEADER.false c.two_bytes-capacity.ensures c.if-capacity-gt256.false
