-- Lists of records that can be.
use Rattle.std.proofs.Common.{List, [], ◌∷◌, ◌++◌}
use Rattle.vx_record.specs.Content.{Content}
use Rattle.vx_record.specs.Grammar.{AreRecords, IsRecord}

pub AreRecords-push : (rs : List Content) (r : Content) → AreRecords rs → IsRecord r → AreRecords (rs ++ r ∷ [])
AreRecords-push [] r h k = (k, tt)
AreRecords-push (s ∷ rs) r h k = (h.0, AreRecords-push rs r h.1 k)
