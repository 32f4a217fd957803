-- The faults of this crate by those of other crates (this project's profile).
use Rattle.trau_orders.specs.declared.fault.OrderFault.{OrderFault}
use Rattle.trau_orders.specs.declared.fault.OrderFault.TheVariants as orders
use Rattle.farm_checkpoint.specs.declared.fault.MarkFault.{MarkFault}
use Rattle.farm_checkpoint.specs.declared.fault.MarkFault.TheVariants as mark
use Rattle.farm_orders.specs.declared.fault.OrdersFault.{OrdersFault}
use Rattle.farm_orders.specs.declared.fault.OrdersFault.TheVariants.{TooLong, Line, Memory}
use Rattle.farm_orders.specs.declared.fault.MarkedFault.{MarkedFault}
use Rattle.farm_orders.specs.declared.fault.MarkedFault.TheVariants.{Mark, Orders}

-- the fault of orders, by that of their text
abbrev pub fault_of : OrderFault → OrdersFault
fault_of orders.TooLong = TooLong
fault_of orders.TooMany = TooLong
fault_of (orders.Line n) = Line n
fault_of orders.Memory = Memory

-- the fault of a mark and orders, by that of the mark
abbrev pub marked_fault_of : MarkFault → MarkedFault
marked_fault_of (mark.Line n) = Mark n
marked_fault_of mark.Memory = Orders Memory
