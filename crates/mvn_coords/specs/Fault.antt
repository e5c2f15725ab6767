-- The names of the faults of a path and of the sides of a file.
use Rattle.std.specs.Prelude.{ℕ, List, codes}
use Rattle.mvn_coords.specs.declared.fault.PathFault.{PathFault}
use Rattle.mvn_coords.specs.declared.fault.PathFault.TheVariants.{Empty, Long, BadSegment, BadSide, Short, NotNamed, LiteralSnapshot, BadStamp, BadBuild}

abbrev pub name_of_fault : PathFault → List ℕ
name_of_fault Empty = codes "Empty"
name_of_fault Long = codes "Long"
name_of_fault BadSegment = codes "BadSegment"
name_of_fault BadSide = codes "BadSide"
name_of_fault Short = codes "Short"
name_of_fault NotNamed = codes "NotNamed"
name_of_fault LiteralSnapshot = codes "LiteralSnapshot"
name_of_fault BadStamp = codes "BadStamp"
name_of_fault BadBuild = codes "BadBuild"
