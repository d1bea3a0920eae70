-- A search that ends before its devices are of use.
use Rattle.std.proofs.Common.{◌∙◌, List}
use Rattle.std.specs.Prelude.{IsSome}
use Rattle.vx_base.specs.Named.{Word}
use Rattle.vx_house.specs.Scene.{Scene}
use Rattle.vx_import.specs.Looks.{Looked}
use Rattle.vx_stage_import.specs.Gathering.{HeadersRead, IsSomeCut, GatherGoes}
use Rattle.vx_stage_import.specs.declared.gathering.Passed.{Passed}
use Rattle.vx_stage_import.specs.declared.gathering.Passed.TheVariants.{Cut}
use Rattle.vx_stage_import.specs.Giving.{IsBack}
use Rattle.vx_stage_import.proofs.Headers.{headers_then}
use Rattle.vx_house.specs.Reading.{AreRead}
use Rattle.vx_house.proofs.Readings.{only_trans, only_unmoved}

pub read_back : (result : Passed) (group : Word) (names : List Word) (old mid new : Scene) (fs : List Looked) → GatherGoes result group names old mid fs → IsBack mid new → AreRead old new
read_back result group names old mid new fs goes back = record { held = back.held; reads = only_trans old mid new goes.reads (only_unmoved mid new back.moved) }

pub cut_back : (group : Word) (names : List Word) (old mid new : Scene) (fs : List Looked) → GatherGoes Cut group names old mid fs → IsBack mid new → IsSomeCut old new
cut_back group names old mid new fs goes back = λ told. let cut = goes.ends told in (cut.0, cut.1, back.moved.seen (goes.reads.told told) cut.0 ∙ cut.2, cut.3)

pub headers_back : (result : Passed) (group : Word) (names : List Word) (old mid new : Scene) (fs : List Looked) → GatherGoes result group names old mid fs → IsBack mid new → IsSome old.shelf.free → HeadersRead names old new
headers_back result group names old mid new fs goes back told = headers_then names old mid new (back.moved.seen (goes.reads.told told)) (goes.headers told)
