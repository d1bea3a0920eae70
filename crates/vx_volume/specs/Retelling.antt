-- Histories that are told coarser than what happened.
use Rattle.std.specs.Prelude.{◌≡◌, ◌⊎◌, List, [], ◌∷◌}
use Rattle.vx_life.specs.declared.EntryKind.TheVariants.{Read, Write, Torn, Missed}
use Rattle.vx_life.specs.Entry.{Entry}
use Rattle.vx_core.specs.Region.{RegionState}
use Rattle.vx_core_laws.specs.Course.{IsKeptState}

-- The second entry tells the first as it is, or a write as torn, or a read as missed. Whatever values a missed read has, they
-- tell nothing.
abbrev pub IsRetold : Entry → Entry → Type 0
IsRetold e f =
    (f ≡ e) ⊎ (((e.kind ≡ Write) × (f ≡ record e { kind = Torn })) ⊎ ((e.kind ≡ Read) × (f ≡ record e { kind = Missed; values = f.values })))

-- the second list tells the first, entry by entry
abbrev pub AreRetold : List Entry → List Entry → Type 0
AreRetold [] [] = Unit {0}
AreRetold (e ∷ es) (f ∷ fs) = IsRetold e f × AreRetold es fs
AreRetold _ _ = ⊥

-- What a region stands for it stands for with its history told so.
abbrev pub EachHistoryIsRetold : Type 0
EachHistoryIsRetold =
    (r : RegionState) (fs : List Entry) →
    AreRetold r.around.entries fs → IsKeptState r → IsKeptState (record r { around = record r.around { entries = fs } })
