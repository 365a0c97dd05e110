-- A list on the heap, as the only field of a struct that contracts see as that list.
use mathlib.Core.Former.{Former}
use denote.RattleType.{RattleType}
use denote.HoleLaws.{Alike}
use denote.HolePlaces.{Laid, laid}
use Rattle.std.specs.formers.vec.Vec as vec
use Rattle.std.specs.contracts.vec.Vec as V
use Rattle.std.specs.declared.alloc.Global.{Global}
use Rattle.std.specs.contracts.alloc.Global as heap
use Rattle.std.specs.contracts.impls.GlobalAllocator.TheImpl.{ghosts}

-- the list of g's values
abbrev pub heap_list : Former {0} → Former {0}
heap_list g = vec.the_former g Global

-- a list of R's
abbrev pub list_row : RattleType → RattleType
list_row R = V.the_row R heap.the_row ghosts

-- where items stay, so does their list
pub list_stays : (R S : RattleType) (h : R.Denot → S.Denot) → Alike R S h
    → Laid (list_row R) (list_row S) (vec.mapped h)
list_stays R S h a = laid (list_row R) (list_row S) (vec.mapped h) (vec.the_places heap.the_row ghosts R S h a)
