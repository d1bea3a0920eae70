use Rattle.std.proofs.Common.{◌∙◌, ap, Err}
use Rattle.vx_pages.proofs.Puts.{put_well, put_failed, put_cut}
use Rattle.vx_pages.proofs.copies.put_one.Goals as goal

pub returns-in-Ok : goal.returns-in-Ok
returns-in-Ok g c = put_well c.args.copy c.args.sector.now _ _ c.requires.whole c.in-Ok.ensures.kept c.in-Ok.ensures.told c.in-Ok.ensures.off c.in-Ok.ensures.cause

pub returns-in-Err-Failed : goal.returns-in-Err-Failed
returns-in-Err-Failed g c =
    put_failed c.args.copy c.args.sector.now _ _ c.requires.whole c.write.ensures.kept c.write.result c.device.result (c.in-Err-Failed.is ∙ ap Err c.in-Err-Failed.field-0-is)
    (c.device.ensures ∙ c.write.ensures.kept.device) c.write.ensures.told c.write.ensures.cause

pub returns-in-Err-PowerLost : goal.returns-in-Err-PowerLost
returns-in-Err-PowerLost g c =
    put_cut c.args.copy c.args.sector.now _ _ c.requires.whole c.write.ensures.kept c.write.result (c.in-Err-PowerLost.is ∙ ap Err c.in-Err-PowerLost.field-0-is)
    c.write.ensures.told c.write.ensures.cause
