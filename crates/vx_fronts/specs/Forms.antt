-- What the fronts of disks are once these were parted, or joined.
use Rattle.vx_copies.specs.Disks.{DiskSeen}
use Rattle.vx_fronts.specs.Parted.{IsCutShort, IsWhole}
use Rattle.vx_fronts.specs.declared.parting.Parting.{Parting}
use Rattle.vx_fronts.specs.declared.parting.Parting.TheVariants.{Open, Close}

-- opened, the private region alone; closed, the whole device
abbrev pub HasForm : Parting → DiskSeen → Type 0
HasForm Open h = IsCutShort h
HasForm Close h = IsWhole h
