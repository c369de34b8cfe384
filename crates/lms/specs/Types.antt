-- For the code alone: what its type for a row of table 1 stands for.
use Rattle.lms.specs.declared.chains.Chains.{Chains}
use Rattle.lms.specs.Ots.{Row}

abbrev pub row : Chains → Row
row c = record { w = c.w; p = c.p; ls = c.ls }
