-- What is said by the values of a form is the form, both ways.
use Rattle.std.proofs.Common.{◌≡◌, ◌∙◌, sym, ap, subst, refl, ℕ, ◌^◌, ◌<◌, ◌≤◌, Bool, true, false, Option, Some, None, option_and_then, List, [], ◌∷◌, arith, lt-ltb, leb-true}
use Rattle.std.specs.Prelude.{nat_le}
use Rattle.std.proofs.Math.Dec.{lit<}
use Rattle.std.proofs.lemmas.Bool.{and_parts, both_ways, cond-true}
use Rattle.vx_script_forms.specs.FormOf.{form_of}
use Rattle.vx_script_forms.specs.Table.{items_of}
use Rattle.vx_script_forms.specs.Values.{maybe_named, maybe_numbered, group_of, below, maybe_below}
use Rattle.vx_script_forms.specs.ValuesOf.{maybe_value, count_value, layout_values, make_kind, kind_of, values_of, opening}
use Rattle.vx_script_forms.specs.declared.act.Act.TheVariants as act
use Rattle.vx_script_forms.specs.declared.call.Call.TheVariants as call
use Rattle.vx_script_forms.specs.declared.form.Form.{Form}
use Rattle.vx_script_forms.specs.declared.form.Form.TheVariants as form
use Rattle.vx_script_forms.specs.declared.form.MakeAttrs.{MakeAttrs}
use Rattle.vx_script_forms.specs.declared.form.WordLayout.{WordLayout}
use Rattle.vx_script_forms.specs.declared.form.WordLayout.TheVariants as layout
use Rattle.vx_script_forms.specs.declared.form.WordPolicy.TheVariants as policy
use Rattle.vx_script_forms.specs.declared.kind.Kind.{Kind}
use Rattle.vx_script_forms.specs.declared.kind.Kind.TheVariants as kind
use Rattle.vx_script_words.specs.Fits.{is_between, is_byte, maybe_of, of_item, are_of}
use Rattle.vx_script_words.specs.declared.class.Item.{Item}
use Rattle.vx_script_words.specs.declared.class.Sort.TheVariants as sort
use Rattle.vx_script_words.specs.declared.value.Value.{Value}
use Rattle.vx_script_words.specs.declared.value.Value.TheVariants as value
use Rattle.vx_script_forms.proofs.ValueForms.{Saids, said_values, word_value, decoded}

-- ---- what may be left out

pub maybe_back : (o : Option (List ℕ)) → maybe_named (maybe_value o) ≡ Some o
maybe_back None = refl
maybe_back (Some name) = refl

pub count_back : (o : Option ℕ) → maybe_numbered (count_value o) ≡ Some o
count_back None = refl
count_back (Some n) = refl

-- the count is below, where there is one
abbrev MaybeBelow : ℕ → Option ℕ → Type 0
MaybeBelow limit None = Unit {0}
MaybeBelow limit (Some n) = n < limit

small_back : (o : Option ℕ) → MaybeBelow (2 ^ 32) o → maybe_below (2 ^ 32) (maybe_numbered (count_value o)) ≡ Some o
small_back None h = refl
small_back (Some n) h = cond-true _ _ _ (lt-ltb n (2 ^ 32) h)

-- the attributes from the mirrors on
mirrors_back : (words : Option WordLayout) (ncol unit nmirror region logs : Option ℕ) → MaybeBelow (2 ^ 32) nmirror → MaybeBelow (2 ^ 32) logs
    → option_and_then (λ n. option_and_then (λ r. option_and_then (λ l. Some (let a : MakeAttrs = record { layout = words; ncol = ncol; unit = unit; nmirror = n; region = r; ndcomirror = l } in a)) (maybe_below (2 ^ 32) (maybe_numbered (count_value logs)))) (maybe_numbered (count_value region))) (maybe_below (2 ^ 32) (maybe_numbered (count_value nmirror)))
    ≡ Some (record { layout = words; ncol = ncol; unit = unit; nmirror = nmirror; region = region; ndcomirror = logs })
mirrors_back words ncol unit nmirror region logs a b = rw (small_back nmirror a, count_back region, small_back logs b) refl

-- a line of `vxassist make`, without `layout=stripe` and with it
module _ (g : Option (List ℕ)) (vol : List ℕ) (size : ℕ) (nmirror region logs : Option ℕ) (disks : List (List ℕ)) (few : MaybeBelow (2 ^ 32) nmirror) (some_logs : MaybeBelow (2 ^ 32) logs) where
  abbrev made : Option WordLayout → Option ℕ → Option ℕ → Form
  made words ncol unit = form.AssistMake vol size (record { layout = words; ncol = ncol; unit = unit; nmirror = nmirror; region = region; ndcomirror = logs }) disks

  abbrev line : Option WordLayout → Option ℕ → Option ℕ → List Value
  line words ncol unit = value.Word ∷ maybe_value g ∷ value.Word ∷ value.Named vol ∷ value.Number size ∷ layout_values words ncol unit (count_value nmirror ∷ count_value region ∷ count_value logs ∷ value.Names disks ∷ [])

  plain_back : form_of kind.MakeConcat (line None None None) ≡ Some (made None None None)
  plain_back = ap (option_and_then (λ a. Some (form.AssistMake vol size a disks))) (mirrors_back None None None nmirror region logs few some_logs)

  concat_back : form_of kind.MakeConcat (line (Some layout.Concat) None None) ≡ Some (made (Some layout.Concat) None None)
  concat_back = ap (option_and_then (λ a. Some (form.AssistMake vol size a disks))) (mirrors_back (Some layout.Concat) None None nmirror region logs few some_logs)

  stripe_back : (ncol unit : Option ℕ) → MaybeBelow (2 ^ 32) ncol → form_of kind.MakeStripe (line (Some layout.Stripe) ncol unit) ≡ Some (made (Some layout.Stripe) ncol unit)
  stripe_back ncol unit narrow = rw (small_back ncol narrow, count_back unit, small_back nmirror few, count_back region, small_back logs some_logs) refl

-- ---- what the tests of the values say

-- each value is of its part
abbrev Each : List Item → List Value → Type 0
Each [] vs = Unit {0}
Each (i ∷ is) [] = Unit {0}
Each (i ∷ is) (v ∷ vs) = (of_item i v ≡ true) × Each is vs

each : (is : List Item) (vs : List Value) → are_of is vs ≡ true → Each is vs
each [] vs h = tt
each (i ∷ is) [] h = tt
each (i ∷ is) (v ∷ vs) h = let parts = and_parts (of_item i v) (are_of is vs) h in (parts.0, each is vs parts.1)

below_top : (low high n : ℕ) → high < 2 ^ 32 → is_between low high n ≡ true → n < 2 ^ 32
below_top low high n top h =
    let at : n ≤ high = leb-true n high (and_parts (nat_le low n) (nat_le n high) h).1 in
    omega (arith, at, top)

-- ---- from the values to the form

-- the values say a form of this kind, and a group; and they are those of both
pub record SaysForm (k : Kind) (vs : List Value) : Type 0 where
  pub form : Form
  pub is : form_of k vs ≡ Some form
  pub kind : kind_of form ≡ k
  pub group : Option (List ℕ)
  pub group_is : group_of vs ≡ Some group
  pub values : values_of group form ≡ vs

found : {k : Kind} {vs : List Value} (f : Form) (g : Option (List ℕ)) → form_of k vs ≡ Some f → kind_of f ≡ k → group_of vs ≡ Some g → values_of g f ≡ vs → SaysForm k vs
found f g is kind group values = record { form = f; is = is; kind = kind; group = g; group_is = group; values = values }

small_is : (low high n : ℕ) → high < 2 ^ 32 → is_between low high n ≡ true → below (2 ^ 32) (Some n) ≡ Some n
small_is low high n top h = cond-true _ _ _ (lt-ltb n (2 ^ 32) (below_top low high n top h))

byte_is : (b : ℕ) → is_byte b ≡ true → below (2 ^ 8) (Some b) ≡ Some b
byte_is b h = cond-true _ _ _ h

-- a count that may be left out is below the top of its range
few_of : (low high : ℕ) (o : Option ℕ) → high < 2 ^ 32 → maybe_of (sort.Number low high) (count_value o) ≡ true → MaybeBelow (2 ^ 32) o
few_of low high None top h = tt
few_of low high (Some n) top h = below_top low high n top h

module _ (g : Option (List ℕ)) (vol : List ℕ) (size : ℕ) (nmirror region logs : Option ℕ) (disks : List (List ℕ)) (few : MaybeBelow (2 ^ 32) nmirror) (some_logs : MaybeBelow (2 ^ 32) logs) where
  concat_says : (b : Bool) → SaysForm kind.MakeConcat (value.Word ∷ maybe_value g ∷ value.Word ∷ value.Named vol ∷ value.Number size ∷ word_value b ∷ count_value nmirror ∷ count_value region ∷ count_value logs ∷ value.Names disks ∷ [])
  concat_says false = found (made g vol size nmirror region logs disks few some_logs None None None) g (plain_back g vol size nmirror region logs disks few some_logs) refl (maybe_back g) refl
  concat_says true = found (made g vol size nmirror region logs disks few some_logs (Some layout.Concat) None None) g (concat_back g vol size nmirror region logs disks few some_logs) refl (maybe_back g) refl

  stripe_says : (ncol unit : Option ℕ) → MaybeBelow (2 ^ 32) ncol → SaysForm kind.MakeStripe (value.Word ∷ maybe_value g ∷ value.Word ∷ value.Named vol ∷ value.Number size ∷ value.Word ∷ count_value ncol ∷ count_value unit ∷ count_value nmirror ∷ count_value region ∷ count_value logs ∷ value.Names disks ∷ [])
  stripe_says ncol unit narrow = found (made g vol size nmirror region logs disks few some_logs (Some layout.Stripe) ncol unit) g (stripe_back g vol size nmirror region logs disks few some_logs ncol unit narrow) refl (maybe_back g) refl

says : (k : Kind) (x : Saids (items_of k)) → are_of (items_of k) (said_values (items_of k) x) ≡ true → SaysForm k (said_values (items_of k) x)
says kind.MkImage (_, (_, (device, (length, _)))) h = found (form.MkImage device length) None refl refl refl refl
says kind.Bare (_, (_, (vol, (device, _)))) h = found (form.Bare vol device) None refl refl refl refl
says kind.DgInit (_, (_, (_, (dg, (disks, _))))) h = found (form.DgInit dg disks) None refl refl refl refl
says kind.DgAddDisk (_, (_, (_, (dg, (_, (disk, _)))))) h = found (form.DgAddDisk dg disk) None refl refl refl refl
says kind.DgImport (_, (_, (_, (dg, _)))) h = found (form.DgImport dg) None refl refl refl refl
says kind.DgDeport (_, (_, (_, (dg, _)))) h = found (form.DgDeport dg) None refl refl refl refl
says kind.DiskUnsetup (_, (_, (device, _))) h = found (form.DiskUnsetup device) None refl refl refl refl
says kind.VxMake (_, (g, (_, _))) h = found (form.VxMake []) g refl refl (maybe_back g) refl
says kind.Mirror (_, (g, (_, (vol, (disks, _))))) h = found (form.Mirror vol disks) g refl refl (maybe_back g) refl
says kind.RemoveVolume (_, (g, (_, (_, (vol, _))))) h = found (form.RemoveVolume vol) g refl refl (maybe_back g) refl
says kind.Start (_, (g, (_, (vol, _)))) h = found (form.Start vol) g refl refl (maybe_back g) refl
says kind.Stop (_, (g, (_, (vol, _)))) h = found (form.Stop vol) g refl refl (maybe_back g) refl
says kind.RdpolRound (_, (g, (_, (_, (vol, _))))) h = found (form.Rdpol vol policy.Round) g refl refl (maybe_back g) refl
says kind.RdpolSelect (_, (g, (_, (_, (vol, _))))) h = found (form.Rdpol vol policy.Select) g refl refl (maybe_back g) refl
says kind.RdpolPrefer (_, (g, (_, (_, (vol, (plex, _)))))) h = found (form.Rdpol vol (policy.Prefer plex)) g refl refl (maybe_back g) refl
says kind.PlexDis (_, (g, (_, (plex, _)))) h = found (form.PlexDis plex false) g refl refl (maybe_back g) refl
says kind.PlexDisRm (_, (g, (_, (_, (_, (plex, _)))))) h = found (form.PlexDis plex true) g refl refl (maybe_back g) refl
says kind.Unprepare (_, (g, (_, (vol, _)))) h = found (form.Unprepare vol) g refl refl (maybe_back g) refl
says kind.AddMir (_, (g, (_, (vol, (disks, _))))) h = found (form.AddMir vol disks) g refl refl (maybe_back g) refl
says kind.Dis (_, (g, (_, (snap, _)))) h = found (form.Dis snap) g refl refl (maybe_back g) refl
says kind.Split (_, (g, (_, (snap, _)))) h = found (form.Split snap) g refl refl (maybe_back g) refl
says kind.SnapMake (_, (g, (_, (parts, _)))) h = found (form.Acting (act.SnapMake parts.vol parts.snap parts.plex)) g refl refl (maybe_back g) refl
says kind.Reattach (_, (g, (_, (snap, (vol, _))))) h = found (form.Acting (act.Reattach snap vol)) g refl refl (maybe_back g) refl
says kind.Restore (_, (g, (_, (vol, (snap, _))))) h = found (form.Acting (act.Restore vol snap)) g refl refl (maybe_back g) refl
says kind.Snapback (_, (g, (_, (snap, _)))) h = found (form.Acting (act.Snapback snap false)) g refl refl (maybe_back g) refl
says kind.SnapbackFromReplica (_, (g, (_, (_, (_, (snap, _)))))) h = found (form.Acting (act.Snapback snap true)) g refl refl (maybe_back g) refl
says kind.PlexDet (_, (g, (_, (plex, _)))) h = found (form.Acting (act.PlexDet plex)) g refl refl (maybe_back g) refl
says kind.PlexAtt (_, (g, (_, (vol, (plex, _))))) h = found (form.Acting (act.PlexAtt vol plex)) g refl refl (maybe_back g) refl
says kind.Read (_, (_, (vol, (start, (count, _))))) h = found (form.Calling (call.Read vol start count)) None refl refl refl refl
says kind.Data (_, (_, (vol, (start, (_, (blocks, _)))))) h = found (form.Calling (call.Data vol start blocks)) None refl refl refl refl
says kind.PrintM (_, (g, (_, (vol, _)))) h = found (form.PrintM vol) g (ap (option_and_then (λ v. Some (form.PrintM v))) (maybe_back vol)) refl (maybe_back g) refl
says kind.PrintHt (_, (g, (_, (vol, _)))) h = found (form.PrintHt vol) g (ap (option_and_then (λ v. Some (form.PrintHt v))) (maybe_back vol)) refl (maybe_back g) refl
says kind.PrintSnaps (_, (g, (_, (vol, _)))) h = found (form.PrintSnaps vol) g (ap (option_and_then (λ v. Some (form.PrintSnaps v))) (maybe_back vol)) refl (maybe_back g) refl
says kind.Recover (_, (g, (_, (vol, _)))) h = found (form.Recover vol) g (ap (option_and_then (λ v. Some (form.Recover v))) (maybe_back vol)) refl (maybe_back g) refl
says kind.Prepare (_, (g, (_, (vol, (ndcomirs, (region, _)))))) h = found (form.Prepare vol ndcomirs region) g (rw (count_back ndcomirs, count_back region) refl) refl (maybe_back g) refl
says kind.Fill x h =
    let (_, (_, (vol, (start, (count, (_, (byte, _))))))) = x in
    let (_, (_, (_, (_, (_, (_, (fits, _))))))) = each (items_of kind.Fill) (said_values (items_of kind.Fill) x) h in
    found (form.Calling (call.Fill vol start count byte)) None (ap (option_and_then (λ b. Some (form.Calling (call.Fill vol start count b)))) (byte_is byte fits)) refl refl refl
says kind.Sessions x h =
    let (_, (_, (sessions, _))) = x in
    let (_, (_, (fits, _))) = each (items_of kind.Sessions) (said_values (items_of kind.Sessions) x) h in
    found (form.Sessions (record { sessions = sessions; lines = [] })) None (ap (option_and_then (λ n. Some (form.Sessions (record { sessions = n; lines = [] })))) (small_is 1 16 sessions (lit< tt) fits)) refl refl refl
says kind.MakeConcat x h =
    let (_, (g, (_, (vol, (size, (words, (nmirror, (region, (logs, (disks, _)))))))))) = x in
    let (_, (_, (_, (_, (_, (_, (few, (_, (some_logs, _))))))))) = each (items_of kind.MakeConcat) (said_values (items_of kind.MakeConcat) x) h in
    concat_says g vol size nmirror region logs disks (few_of 1 8 nmirror (lit< tt) few) (few_of 0 2 logs (lit< tt) some_logs) words
says kind.MakeStripe x h =
    let (_, (g, (_, (vol, (size, (_, (ncol, (unit, (nmirror, (region, (logs, (disks, _)))))))))))) = x in
    let (_, (_, (_, (_, (_, (_, (narrow, (_, (few, (_, (some_logs, _))))))))))) = each (items_of kind.MakeStripe) (said_values (items_of kind.MakeStripe) x) h in
    stripe_says g vol size nmirror region logs disks (few_of 1 8 nmirror (lit< tt) few) (few_of 0 2 logs (lit< tt) some_logs) ncol unit (few_of 2 16 ncol (lit< tt) narrow)

-- no value of a form is of another sort than its part
pub form_ok : (k : Kind) (vs : List Value) → are_of (items_of k) vs ≡ true → SaysForm k vs
form_ok k vs h =
    let d = decoded (items_of k) vs h in
    subst (SaysForm k) (sym d.1) (says k d.0 (sym (ap (are_of (items_of k)) d.1) ∙ h))

-- ---- from the form to the values, and back

module _ (g : Option (List ℕ)) (vol : List ℕ) (size : ℕ) (nmirror region logs : Option ℕ) (disks : List (List ℕ)) where
  abbrev again : Option WordLayout → Option ℕ → Option ℕ → List Value
  again words ncol unit = value.Word ∷ maybe_value g ∷ value.Word ∷ value.Named vol ∷ value.Number size ∷ layout_values words ncol unit (count_value nmirror ∷ count_value region ∷ count_value logs ∷ value.Names disks ∷ [])

  -- columns or a stripe unit without `layout=stripe` are refused
  astray : (ncol unit : Option ℕ) → are_of (items_of kind.MakeStripe) (value.Word ∷ maybe_value g ∷ value.Word ∷ value.Named vol ∷ value.Number size ∷ value.Nothing ∷ count_value ncol ∷ count_value unit ∷ count_value nmirror ∷ count_value region ∷ count_value logs ∷ value.Names disks ∷ []) ≡ true → ⊥
  astray ncol unit h =
      let (_, (_, (_, (_, (_, (word, _)))))) = each (items_of kind.MakeStripe) (value.Word ∷ maybe_value g ∷ value.Word ∷ value.Named vol ∷ value.Number size ∷ value.Nothing ∷ count_value ncol ∷ count_value unit ∷ count_value nmirror ∷ count_value region ∷ count_value logs ∷ value.Names disks ∷ []) h in
      both_ways false refl word

  make_again : (words : Option WordLayout) (ncol unit : Option ℕ) → are_of (items_of (make_kind words ncol unit)) (again words ncol unit) ≡ true → form_of (make_kind words ncol unit) (again words ncol unit) ≡ Some (form.AssistMake vol size (record { layout = words; ncol = ncol; unit = unit; nmirror = nmirror; region = region; ndcomirror = logs }) disks)
  make_again None None None h =
      let (_, (_, (_, (_, (_, (_, (few, (_, (some_logs, _))))))))) = each (items_of kind.MakeConcat) (again None None None) h in
      plain_back g vol size nmirror region logs disks (few_of 1 8 nmirror (lit< tt) few) (few_of 0 2 logs (lit< tt) some_logs)
  make_again (Some layout.Concat) None None h =
      let (_, (_, (_, (_, (_, (_, (few, (_, (some_logs, _))))))))) = each (items_of kind.MakeConcat) (again (Some layout.Concat) None None) h in
      concat_back g vol size nmirror region logs disks (few_of 1 8 nmirror (lit< tt) few) (few_of 0 2 logs (lit< tt) some_logs)
  make_again (Some layout.Stripe) ncol unit h =
      let (_, (_, (_, (_, (_, (_, (narrow, (_, (few, (_, (some_logs, _))))))))))) = each (items_of kind.MakeStripe) (again (Some layout.Stripe) ncol unit) h in
      stripe_back g vol size nmirror region logs disks (few_of 1 8 nmirror (lit< tt) few) (few_of 0 2 logs (lit< tt) some_logs) ncol unit (few_of 2 16 ncol (lit< tt) narrow)
  make_again None (Some n) unit h = absurd (astray (Some n) unit h)
  make_again None None (Some u) h = absurd (astray None (Some u) h)
  make_again (Some layout.Concat) (Some n) unit h = absurd (astray (Some n) unit h)
  make_again (Some layout.Concat) None (Some u) h = absurd (astray None (Some u) h)

-- a form whose values are those of its parts is said by them, as far as its first line goes
pub form_again : (g : Option (List ℕ)) (f : Form) → are_of (items_of (kind_of f)) (values_of g f) ≡ true → form_of (kind_of f) (values_of g f) ≡ Some (opening f)
form_again g (form.PrintM vol) h = ap (option_and_then (λ v. Some (form.PrintM v))) (maybe_back vol)
form_again g (form.PrintHt vol) h = ap (option_and_then (λ v. Some (form.PrintHt v))) (maybe_back vol)
form_again g (form.AssistMake vol size a disks) h = make_again g vol size a.nmirror a.region a.ndcomirror disks a.layout a.ncol a.unit h
form_again g (form.Rdpol vol policy.Round) h = refl
form_again g (form.Rdpol vol p) h = refl
form_again g (form.PlexDis plex true) h = refl
form_again g (form.Prepare vol ndcomirs region) h = rw (count_back ndcomirs, count_back region) refl
form_again g (form.PrintSnaps vol) h = ap (option_and_then (λ v. Some (form.PrintSnaps v))) (maybe_back vol)
form_again g (form.Recover vol) h = ap (option_and_then (λ v. Some (form.Recover v))) (maybe_back vol)
form_again g (form.Acting (act.Snapback snap true)) h = refl
form_again g (form.Acting a) h = refl
form_again g (form.Calling (call.Fill vol start count byte)) h =
    let (_, (_, (_, (_, (_, (_, (fits, _))))))) = each (items_of kind.Fill) (values_of g (form.Calling (call.Fill vol start count byte))) h in
    ap (option_and_then (λ b. Some (form.Calling (call.Fill vol start count b)))) (byte_is byte fits)
form_again g (form.Calling c) h = refl
form_again g (form.Sessions block) h =
    let (_, (_, (fits, _))) = each (items_of kind.Sessions) (values_of g (form.Sessions block)) h in
    ap (option_and_then (λ n. Some (form.Sessions (record { sessions = n; lines = [] })))) (small_is 1 16 block.sessions (lit< tt) fits)
form_again g f h = refl

-- the second value is the group
pub group_again : (g : Option (List ℕ)) (f : Form) → group_of (values_of g f) ≡ Some g
group_again g (form.Rdpol vol policy.Round) = maybe_back g
group_again g (form.Rdpol vol p) = maybe_back g
group_again g (form.PlexDis plex true) = maybe_back g
group_again g (form.Acting (act.Snapback snap true)) = maybe_back g
group_again g (form.Acting a) = maybe_back g
group_again g (form.Calling (call.Read vol start count)) = maybe_back g
group_again g (form.Calling c) = maybe_back g
group_again g f = maybe_back g
