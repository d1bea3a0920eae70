-- The plan of each form gives its stages what they need.
use Rattle.std.proofs.Common.{◌≤◌, ◌^◌, ℕ, List, Option, Some, None, refl, inl, inr}
use Rattle.vx_base.specs.Named.{Word}
use Rattle.vx_script_words.specs.declared.value.DiskAt.{DiskAt}
use Rattle.vx_script_forms.specs.declared.act.Act.TheVariants as act
use Rattle.vx_script_forms.specs.declared.form.Form.{Form}
use Rattle.vx_script_forms.specs.declared.form.Form.TheVariants as form
use Rattle.vx_script_forms.specs.declared.form.WordPolicy.{WordPolicy}
use Rattle.vx_script_forms.specs.declared.form.WordPolicy.TheVariants as words
use Rattle.vx_plans.specs.Plans.{plan_of}
use Rattle.vx_run.specs.Sound.{IsSoundIfAny, HasFormSize}

image : (dg : Option Word) (device : Word) (n : ℕ) → (1 ≤ n) × (n ≤ 2 ^ 40) → IsSoundIfAny (plan_of dg (form.MkImage device n))
unfolding plan_of
image dg device n size = record { fed = ((λ is. cc, tt), tt); kept = tt; sized = (size, tt); shows = tt }

bare : (dg : Option Word) (vol device : Word) → IsSoundIfAny (plan_of dg (form.Bare vol device))
unfolding plan_of
bare dg vol device = record {
  fed = ((λ is. refl, tt), ((λ is. cc, (inl refl, tt)), ((λ is. cc, (inl refl, tt)), ((λ is. cc, (inl refl, (inr (inr (inl refl)), tt))), tt))));
  kept = tt;
  sized = (tt, (tt, (tt, (tt, tt))));
  shows = tt;
}

init : (dg : Option Word) (name : Word) (disks : List DiskAt) → IsSoundIfAny (plan_of dg (form.DgInit name disks))
unfolding plan_of
init dg name disks = record {
  fed = ((λ is. refl, tt), ((λ is. cc, (inl refl, tt)), ((λ is. cc, tt), ((λ is. cc, (inl refl, tt)), ((λ is. cc, (inl refl, tt)), ((λ is. cc, (inl refl, (inr (inr (inr (inl refl))), tt))), ((λ is. cc, (inl refl, (inr (inl refl), (inr (inr (inr (inl refl))), (inr (inr (inr (inr (inr (inl refl))))), tt))))), tt)))))));
  kept = tt;
  sized = (tt, (tt, (tt, (tt, (tt, (tt, (tt, tt)))))));
  shows = tt;
}

add : (dg : Option Word) (name : Word) (disk : DiskAt) → IsSoundIfAny (plan_of dg (form.DgAddDisk name disk))
unfolding plan_of
add dg name disk = record {
  fed = ((λ is. refl, tt), ((λ is. cc, tt), ((λ is. cc, (inl refl, tt)), ((λ is. cc, (inl refl, tt)), ((λ is. cc, (inl refl, tt)), ((λ is. cc, (inl refl, (inr (inr (inl refl)), (inr (inr (inr (inl refl))), tt)))), tt))))));
  kept = tt;
  sized = (tt, (tt, (tt, (tt, (tt, (tt, tt))))));
  shows = tt;
}

rdpol : (dg : Option Word) (vol : Word) (how : WordPolicy) → IsSoundIfAny (plan_of dg (form.Rdpol vol how))
unfolding plan_of
rdpol dg vol words.Round = record { fed = ((λ is. cc, tt), ((λ is. cc, tt), ((λ is. cc, tt), tt))); kept = tt; sized = (tt, (tt, (tt, tt))); shows = tt }
rdpol dg vol words.Select = record { fed = ((λ is. cc, tt), ((λ is. cc, tt), ((λ is. cc, tt), tt))); kept = tt; sized = (tt, (tt, (tt, tt))); shows = tt }
rdpol dg vol (words.Prefer plex) = record { fed = ((λ is. cc, tt), ((λ is. cc, tt), ((λ is. cc, tt), ((λ is. cc, tt), tt)))); kept = tt; sized = (tt, (tt, (tt, (tt, tt)))); shows = tt }

print : (dg vol : Option Word) → IsSoundIfAny (plan_of dg (form.PrintM vol))
unfolding plan_of
print dg None = record { fed = ((λ is. cc, tt), tt); kept = (refl, tt); sized = (tt, tt); shows = (dg, inl refl) }
print dg (Some vol) = record { fed = ((λ is. cc, tt), ((λ is. cc, tt), tt)); kept = (refl, (refl, tt)); sized = (tt, (tt, tt)); shows = ((dg, inl refl), inr (inl refl)) }

hierarchy : (dg vol : Option Word) → IsSoundIfAny (plan_of dg (form.PrintHt vol))
unfolding plan_of
hierarchy dg None = record { fed = ((λ is. cc, tt), tt); kept = (refl, tt); sized = (tt, tt); shows = (dg, inl refl) }
hierarchy dg (Some vol) = record { fed = ((λ is. cc, tt), ((λ is. cc, tt), tt)); kept = (refl, (refl, tt)); sized = (tt, (tt, tt)); shows = ((dg, inl refl), inr (inl refl)) }

-- the plan of a form, where it has one
pub plan_sound : (dg : Option Word) (f : Form) → HasFormSize f → IsSoundIfAny (plan_of dg f)
unfolding plan_of
plan_sound dg (form.MkImage device length) size = image dg device length size
plan_sound dg (form.Bare vol device) size = bare dg vol device
plan_sound dg (form.DgInit name disks) size = init dg name disks
plan_sound dg (form.DgAddDisk name disk) size = add dg name disk
plan_sound dg (form.DgImport name) size = record { fed = ((λ is. refl, tt), tt); kept = tt; sized = (tt, tt); shows = tt }
plan_sound dg (form.DgDeport name) size = record { fed = ((λ is. cc, tt), ((λ is. cc, tt), ((λ is. cc, (inr (inl refl), tt)), tt))); kept = tt; sized = (tt, (tt, (tt, tt))); shows = tt }
plan_sound dg (form.DiskUnsetup device) size = record { fed = ((λ is. refl, tt), ((λ is. cc, (inl refl, tt)), ((λ is. cc, (inl refl, tt)), tt))); kept = tt; sized = (tt, (tt, (tt, tt))); shows = tt }
plan_sound dg (form.PrintM vol) size = print dg vol
plan_sound dg (form.Rdpol vol how) size = rdpol dg vol how
plan_sound dg (form.RemoveVolume vol) size = record { fed = ((λ is. cc, tt), ((λ is. cc, tt), ((λ is. cc, tt), ((λ is. cc, tt), ((λ is. cc, (inr (inl refl), (inr (inr (inl refl)), tt))), tt))))); kept = tt; sized = (tt, (tt, (tt, (tt, (tt, tt))))); shows = tt }
plan_sound dg (form.VxMake text) size = record { fed = ((λ is. cc, tt), ((λ is. cc, tt), tt)); kept = tt; sized = (tt, (tt, tt)); shows = tt }
plan_sound dg (form.AssistMake vol length attrs disks) size = record { fed = ((λ is. cc, tt), ((λ is. cc, tt), ((λ is. cc, tt), ((λ is. cc, (inl refl, tt)), tt)))); kept = tt; sized = (tt, (tt, (tt, (tt, tt)))); shows = tt }
plan_sound dg (form.Start vol) size = record { fed = ((λ is. cc, tt), ((λ is. cc, tt), ((λ is. cc, tt), ((λ is. cc, (inr (inr (inl refl)), tt)), tt)))); kept = tt; sized = (tt, (tt, (tt, (tt, tt)))); shows = tt }
plan_sound dg (form.Stop vol) size = record { fed = ((λ is. cc, tt), ((λ is. cc, tt), ((λ is. cc, tt), tt))); kept = tt; sized = (tt, (tt, (tt, tt))); shows = tt }
plan_sound dg (form.Mirror vol disks) size = record { fed = ((λ is. cc, tt), ((λ is. cc, tt), tt)); kept = tt; sized = (tt, (tt, tt)); shows = tt }
plan_sound dg (form.PrintHt vol) size = hierarchy dg vol
plan_sound dg (form.PlexDis plex rm) size = record { fed = ((λ is. cc, tt), ((λ is. cc, tt), tt)); kept = tt; sized = (tt, (tt, tt)); shows = tt }
plan_sound dg (form.Prepare vol ndcomirs region) size = record { fed = ((λ is. cc, tt), ((λ is. cc, tt), tt)); kept = tt; sized = (tt, (tt, tt)); shows = tt }
plan_sound dg (form.Unprepare vol) size = record { fed = ((λ is. cc, tt), ((λ is. cc, tt), tt)); kept = tt; sized = (tt, (tt, tt)); shows = tt }
plan_sound dg (form.AddMir vol disks) size = tt
plan_sound dg (form.Dis snap) size = tt
plan_sound dg (form.Split snap) size = tt
plan_sound dg (form.PrintSnaps vol) size = tt
plan_sound dg (form.Recover vol) size = tt
plan_sound dg (form.Acting (act.SnapMake vol snap plex)) size = tt
plan_sound dg (form.Acting (act.Reattach snap vol)) size = tt
plan_sound dg (form.Acting (act.Restore vol snap)) size = tt
plan_sound dg (form.Acting (act.Snapback snap from)) size = tt
plan_sound dg (form.Acting (act.PlexDet plex)) size = record { fed = ((λ is. cc, tt), ((λ is. cc, tt), tt)); kept = tt; sized = (tt, (tt, tt)); shows = tt }
plan_sound dg (form.Acting (act.PlexAtt vol plex)) size = record { fed = ((λ is. cc, tt), ((λ is. cc, tt), tt)); kept = tt; sized = (tt, (tt, tt)); shows = tt }
plan_sound dg (form.Calling call) size = tt
plan_sound dg (form.Sessions block) size = tt
