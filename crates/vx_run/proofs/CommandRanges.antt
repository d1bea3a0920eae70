-- What is asked of calls and forms holds of a command of a script.
use Rattle.std.proofs.Common.{◌≡◌, ◌%◌, ◌<◌, ◌≤◌, ◌^◌, ◌==◌, ℕ, eqb-true, nat_lt, nat_le, true, ◌&&◌, List, length, arith, Option, refl, subst}
use Rattle.std.proofs.lemmas.Bool.{and_parts, leb-true, ltb-true}
use Rattle.vx_base.specs.Named.{Word}
use Rattle.vx_names.specs.Form.{is_name}
use Rattle.vx_script_forms.specs.ValuesOf.{maybe_value}
use Rattle.vx_script_forms.specs.declared.call.Call.{Call}
use Rattle.vx_script_forms.specs.declared.call.Call.TheVariants as calls
use Rattle.vx_script_forms.specs.declared.form.Form.{Form}
use Rattle.vx_script_forms.specs.declared.form.Form.TheVariants as form
use Rattle.vx_script.specs.Kept.{is_said}
use Rattle.vx_script.proofs.Calls.{read_range, fill_range}
use Rattle.vx_script_words.specs.Fits.{are_blocks, is_between, of_item}
use Rattle.vx_script_words.specs.declared.class.Item.TheVariants as item
use Rattle.vx_answers.specs.declared.answer.End.{End}
use Rattle.vx_answers.specs.declared.answer.View.{View}
use Rattle.vx_moments.specs.Moment.{Moment}
use Rattle.vx_plans.specs.Plans.{plan_of, disks_of}
use Rattle.vx_plans.specs.Steps.{DoesForm, DoesPlan, WantsForm, WantsPlan}
use Rattle.vx_group_calls.specs.Serving.{IsWithinLimits}

in_range : (start count : ℕ) → (nat_lt start (2 ^ 40) && nat_lt 0 count && nat_le count 2048) ≡ true → (start < 2 ^ 40) × (0 < count) × (count ≤ 2048)
in_range start count e =
    let p = and_parts (nat_lt start (2 ^ 40) && nat_lt 0 count) _ e in
    let q = and_parts (nat_lt start (2 ^ 40)) _ p.0 in
    (ltb-true start (2 ^ 40) q.0, ltb-true 0 count q.1, leb-true count 2048 p.1)

-- 1 to 64 whole blocks
blocks_within : (group : Option Word) (vol : Word) (start : ℕ) (blocks : List ℕ) → is_said group (form.Calling (calls.Data vol start blocks)) ≡ true → IsWithinLimits (calls.Data vol start blocks)
blocks_within group vol start blocks said =
    let alone = and_parts (of_item item.NoGroup (maybe_value group)) _ said in
    let named = and_parts (is_name vol) _ alone.1 in
    let placed = and_parts (is_between 0 1099511627775 start) _ named.1 in
    let begins = and_parts (nat_le 0 start) (nat_le start 1099511627775) placed.0 in
    let are = and_parts (are_blocks blocks) true placed.1 in
    let sized = and_parts (length blocks % 512 == 0 && is_between 512 32768 (length blocks)) _ are.0 in
    let long = and_parts (length blocks % 512 == 0) _ sized.0 in
    let ends = and_parts (nat_le 512 (length blocks)) (nat_le (length blocks) 32768) long.1 in
    let last = leb-true start 1099511627775 begins.1 in
    let least = leb-true 512 (length blocks) ends.0 in
    let most = leb-true (length blocks) 32768 ends.1 in
    (omega (arith, last), eqb-true _ _ long.0, omega (arith, least), omega (arith, most))

pub call_within : (group : Option Word) (f : Form) (call : Call) → f ≡ form.Calling call → is_said group f ≡ true → IsWithinLimits call
call_within group f call is said = by call (subst (λ x. is_said group x ≡ true) is said)
  where
    by : (c : Call) → is_said group (form.Calling c) ≡ true → IsWithinLimits c
    by (calls.Read vol start count) said = in_range start count (read_range group vol start count said)
    by (calls.Fill vol start count byte) said = in_range start count (fill_range group vol start count byte said)
    by (calls.Data vol start blocks) said = blocks_within group vol start blocks said

-- how a command goes from one moment to the next, ..
abbrev Goings : Type 1
Goings = Moment → List View → End → Moment → Type 0

-- .. and what want of memory leaves of it
abbrev Leavings : Type 1
Leavings = Moment → Moment → Type 0

-- a form that is neither a call nor a recovery does what its plan does
pub other_form : (Q : Goings → Leavings → Type 0) (place : ℕ) (dg : Option Word) (x : Form) → ((call : Call) → x ≡ form.Calling call → ⊥) → ((vol : Option Word) → x ≡ form.Recover vol → ⊥) → Q (DoesPlan (disks_of x) (plan_of dg x)) (WantsPlan (disks_of x) (plan_of dg x)) → Q (DoesForm place dg x) (WantsForm dg x)
other_form Q place dg (form.Calling call) none unhealed q = absurd (none call refl)
other_form Q place dg (form.MkImage a b) none unhealed q = q
other_form Q place dg (form.Bare a b) none unhealed q = q
other_form Q place dg (form.DgInit a b) none unhealed q = q
other_form Q place dg (form.DgAddDisk a b) none unhealed q = q
other_form Q place dg (form.DgImport a) none unhealed q = q
other_form Q place dg (form.DgDeport a) none unhealed q = q
other_form Q place dg (form.DiskUnsetup a) none unhealed q = q
other_form Q place dg (form.PrintM a) none unhealed q = q
other_form Q place dg (form.VxMake a) none unhealed q = q
other_form Q place dg (form.PrintHt a) none unhealed q = q
other_form Q place dg (form.AssistMake a b d e) none unhealed q = q
other_form Q place dg (form.Mirror a b) none unhealed q = q
other_form Q place dg (form.RemoveVolume a) none unhealed q = q
other_form Q place dg (form.Start a) none unhealed q = q
other_form Q place dg (form.Stop a) none unhealed q = q
other_form Q place dg (form.Rdpol a b) none unhealed q = q
other_form Q place dg (form.PlexDis a b) none unhealed q = q
other_form Q place dg (form.Prepare a b d) none unhealed q = q
other_form Q place dg (form.Unprepare a) none unhealed q = q
other_form Q place dg (form.AddMir a b) none unhealed q = q
other_form Q place dg (form.Dis a) none unhealed q = q
other_form Q place dg (form.Split a) none unhealed q = q
other_form Q place dg (form.PrintSnaps a) none unhealed q = q
other_form Q place dg (form.Recover vol) none unhealed q = absurd (unhealed vol refl)
other_form Q place dg (form.Acting a) none unhealed q = q
other_form Q place dg (form.Sessions a) none unhealed q = q
