-- Records say one list of objects.
use Rattle.std.specs.Prelude.{◌&&◌, codes, decimal, if◌then◌else◌}
use Rattle.std.specs.List.{list_all}
use Rattle.std.specs.Str.{bytes_eq}
use Rattle.std.proofs.Common.{◌≡◌, ℕ, ◌^◌, ◌<◌, true, Option, Some, None, List, [], ◌∷◌, map, refl, sym, ◌∙◌, ap, arith}
use Rattle.std.proofs.lemmas.Bool.{and_parts}
use Rattle.std.proofs.lemmas.Bool.Decides.{nat_tests}
use Rattle.std.proofs.lemmas.Fmt.{decimal_injective}
use Rattle.vx_base.specs.Named.{Word}
use Rattle.vx_names.specs.declared.attr.Attr.{Attr}
use Rattle.vx_record.specs.Content.{Content}
use Rattle.vx_config_parts.specs.declared.group.Group.{Group}
use Rattle.vx_config_parts.specs.declared.disk.Disk.{Disk}
use Rattle.vx_config_parts.specs.declared.subdisk.Subdisk.{Subdisk}
use Rattle.vx_config_parts.specs.declared.plex.Plex.{Plex}
use Rattle.vx_config_parts.specs.declared.plex.PlexKind.{PlexKind}
use Rattle.vx_config_parts.specs.declared.plex.PlexKind.TheVariants as kind
use Rattle.vx_config_parts.specs.declared.plex.PlexLayout.{PlexLayout}
use Rattle.vx_config_parts.specs.declared.plex.PlexLayout.TheVariants as layout
use Rattle.vx_config_parts.specs.declared.state.PlexState.{PlexState}
use Rattle.vx_config_parts.specs.declared.state.PlexState.TheVariants as plex
use Rattle.vx_config_parts.specs.declared.state.VolState.{VolState}
use Rattle.vx_config_parts.specs.declared.state.VolState.TheVariants as vol
use Rattle.vx_config_parts.specs.declared.vol.PolicyKind.{PolicyKind}
use Rattle.vx_config_parts.specs.declared.vol.PolicyKind.TheVariants as policy
use Rattle.vx_config_parts.specs.declared.vol.Vol.{Vol}
use Rattle.vx_config_parts.specs.declared.dco.Dco.{Dco}
use Rattle.vx_config_parts.specs.declared.snap.Snap.{Snap}
use Rattle.vx_config_parts.specs.declared.object.Object.{Object}
use Rattle.vx_config_parts.specs.declared.object.Object.TheVariants.{GroupRecord, DiskRecord, SubdiskRecord, PlexRecord, VolRecord, DcoRecord, SnapRecord}
use Rattle.vx_config_parts.specs.Words.{plex_kind_word, layout_word, plex_state_word, vol_state_word, policy_word}
use Rattle.vx_rules.specs.Limits.{is_short}
use Rattle.vx_objects.specs.Printed.{record_of, numeral_or_none, map_is_short, can_be_said}

short : (n : ℕ) → is_short n ≡ true → n < 2 ^ 64
short n h = grind (arith, nat_tests)

one_number : (m n : ℕ) → is_short m ≡ true → is_short n ≡ true → decimal m ≡ decimal n → m ≡ n
one_number m n h k e = decimal_injective m n (short m h) (short n k) e

one_map : (m n : Option ℕ) → map_is_short m ≡ true → map_is_short n ≡ true → numeral_or_none m ≡ numeral_or_none n → m ≡ n
one_map None None h k e = refl
one_map None (Some n) h k e = cc
one_map (Some m) None h k e = cc
one_map (Some m) (Some n) h k e = let same : decimal m ≡ decimal n = cc in ap (λ (x : ℕ). Some x) (one_number m n h k same)

one_inside : {A : Type 0} (a b : A) → Some a ≡ Some b → a ≡ b
one_inside a b e = cc

-- what each word names
plex_kind_of : Word → Option PlexKind
plex_kind_of w = if bytes_eq (codes "data") w then Some kind.Data else Some kind.Log

plex_kind_back : (x : PlexKind) → plex_kind_of (plex_kind_word x) ≡ Some x
unfolding plex_kind_of
plex_kind_back kind.Data = refl
plex_kind_back kind.Log = refl

one_plex_kind : (x y : PlexKind) → plex_kind_word x ≡ plex_kind_word y → x ≡ y
one_plex_kind x y e = one_inside x y (sym (plex_kind_back x) ∙ ap plex_kind_of e ∙ plex_kind_back y)

layout_of : Word → Option PlexLayout
layout_of w = if bytes_eq (codes "concat") w then Some layout.Concat else Some layout.Stripe

layout_back : (x : PlexLayout) → layout_of (layout_word x) ≡ Some x
unfolding layout_of
layout_back layout.Concat = refl
layout_back layout.Stripe = refl

one_layout : (x y : PlexLayout) → layout_word x ≡ layout_word y → x ≡ y
one_layout x y e = one_inside x y (sym (layout_back x) ∙ ap layout_of e ∙ layout_back y)

policy_of : Word → Option PolicyKind
policy_of w = if bytes_eq (codes "round") w then Some policy.Round else if bytes_eq (codes "prefer") w then Some policy.Prefer else Some policy.Select

policy_back : (x : PolicyKind) → policy_of (policy_word x) ≡ Some x
unfolding policy_of
policy_back policy.Round = refl
policy_back policy.Prefer = refl
policy_back policy.Select = refl

one_policy : (x y : PolicyKind) → policy_word x ≡ policy_word y → x ≡ y
one_policy x y e = one_inside x y (sym (policy_back x) ∙ ap policy_of e ∙ policy_back y)

plex_state_of : Word → Option PlexState
plex_state_of w =
    if bytes_eq (codes "EMPTY") w then Some plex.Empty
    else if bytes_eq (codes "CLEAN") w then Some plex.Clean
    else if bytes_eq (codes "ACTIVE") w then Some plex.Active
    else if bytes_eq (codes "IOFAIL") w then Some plex.IoFail
    else if bytes_eq (codes "STALE") w then Some plex.Stale
    else if bytes_eq (codes "SNAPATT") w then Some plex.SnapAtt
    else if bytes_eq (codes "SNAPDONE") w then Some plex.SnapDone
    else Some plex.DcoSnp

plex_state_back : (x : PlexState) → plex_state_of (plex_state_word x) ≡ Some x
unfolding plex_state_of
plex_state_back plex.Empty = refl
plex_state_back plex.Clean = refl
plex_state_back plex.Active = refl
plex_state_back plex.IoFail = refl
plex_state_back plex.Stale = refl
plex_state_back plex.SnapAtt = refl
plex_state_back plex.SnapDone = refl
plex_state_back plex.DcoSnp = refl

one_plex_state : (x y : PlexState) → plex_state_word x ≡ plex_state_word y → x ≡ y
one_plex_state x y e = one_inside x y (sym (plex_state_back x) ∙ ap plex_state_of e ∙ plex_state_back y)

vol_state_of : Word → Option VolState
vol_state_of w =
    if bytes_eq (codes "EMPTY") w then Some vol.Empty
    else if bytes_eq (codes "CLEAN") w then Some vol.Clean
    else if bytes_eq (codes "ACTIVE") w then Some vol.Active
    else if bytes_eq (codes "NEEDSYNC") w then Some vol.NeedSync
    else Some vol.Sync

vol_state_back : (x : VolState) → vol_state_of (vol_state_word x) ≡ Some x
unfolding vol_state_of
vol_state_back vol.Empty = refl
vol_state_back vol.Clean = refl
vol_state_back vol.Active = refl
vol_state_back vol.NeedSync = refl
vol_state_back vol.Sync = refl

one_vol_state : (x y : VolState) → vol_state_word x ≡ vol_state_word y → x ≡ y
one_vol_state x y e = one_inside x y (sym (vol_state_back x) ∙ ap vol_state_of e ∙ vol_state_back y)

abbrev values_in : Content → List (Option Word)
values_in c = map (λ (x : Attr). x.value) c.attrs

abbrev values_of : Object → List (Option Word)
values_of o = values_in (record_of o)

-- the objects of each kind, by their names and attributes
one_group : (a b : Group) → can_be_said (GroupRecord a) ≡ true → can_be_said (GroupRecord b) ≡ true → a.name ≡ b.name → a ≡ b
one_group a b h k name =
    let version : a.version ≡ b.version = grind (arith, nat_tests) in
    λ i. record { name = name i; version = version i }

one_disk : (a b : Disk) → can_be_said (DiskRecord a) ≡ true → can_be_said (DiskRecord b) ≡ true → a.name ≡ b.name → values_of (DiskRecord a) ≡ values_of (DiskRecord b) → a ≡ b
one_disk a b h k name values =
    let hs = and_parts (is_short a.slot) (is_short a.publen) h in
    let ks = and_parts (is_short b.slot) (is_short b.publen) k in
    let device : a.device ≡ b.device = cc in
    let slot : decimal a.slot ≡ decimal b.slot = cc in
    let publen : decimal a.publen ≡ decimal b.publen = cc in
    let slot_same = one_number a.slot b.slot hs.0 ks.0 slot in
    let publen_same = one_number a.publen b.publen hs.1 ks.1 publen in
    λ i. record { name = name i; device = device i; slot = slot_same i; publen = publen_same i }

one_subdisk : (a b : Subdisk) → can_be_said (SubdiskRecord a) ≡ true → can_be_said (SubdiskRecord b) ≡ true → a.name ≡ b.name → values_of (SubdiskRecord a) ≡ values_of (SubdiskRecord b) → a ≡ b
one_subdisk a b h k name values =
    let h2 = and_parts (is_short a.off && is_short a.len && is_short a.col) (is_short a.at) h in
    let h1 = and_parts (is_short a.off && is_short a.len) (is_short a.col) h2.0 in
    let h0 = and_parts (is_short a.off) (is_short a.len) h1.0 in
    let k2 = and_parts (is_short b.off && is_short b.len && is_short b.col) (is_short b.at) k in
    let k1 = and_parts (is_short b.off && is_short b.len) (is_short b.col) k2.0 in
    let k0 = and_parts (is_short b.off) (is_short b.len) k1.0 in
    let disk : a.disk ≡ b.disk = cc in
    let off : decimal a.off ≡ decimal b.off = cc in
    let len : decimal a.len ≡ decimal b.len = cc in
    let plex : a.plex ≡ b.plex = cc in
    let col : decimal a.col ≡ decimal b.col = cc in
    let at : decimal a.at ≡ decimal b.at = cc in
    let off_same = one_number a.off b.off h0.0 k0.0 off in
    let len_same = one_number a.len b.len h0.1 k0.1 len in
    let col_same = one_number a.col b.col h1.1 k1.1 col in
    let at_same = one_number a.at b.at h2.1 k2.1 at in
    λ i. record { name = name i; disk = disk i; off = off_same i; len = len_same i; plex = plex i; col = col_same i; at = at_same i }

one_plex : (a b : Plex) → can_be_said (PlexRecord a) ≡ true → can_be_said (PlexRecord b) ≡ true → a.name ≡ b.name → values_of (PlexRecord a) ≡ values_of (PlexRecord b) → a ≡ b
one_plex a b h k name values =
    let h1 = and_parts (is_short a.ncol && is_short a.unit) (map_is_short a.map) h in
    let h0 = and_parts (is_short a.ncol) (is_short a.unit) h1.0 in
    let k1 = and_parts (is_short b.ncol && is_short b.unit) (map_is_short b.map) k in
    let k0 = and_parts (is_short b.ncol) (is_short b.unit) k1.0 in
    let vol : a.vol ≡ b.vol = cc in
    let kind : plex_kind_word a.kind ≡ plex_kind_word b.kind = cc in
    let layout : layout_word a.layout ≡ layout_word b.layout = cc in
    let ncol : decimal a.ncol ≡ decimal b.ncol = cc in
    let unit : decimal a.unit ≡ decimal b.unit = cc in
    let state : plex_state_word a.state ≡ plex_state_word b.state = cc in
    let map : numeral_or_none a.map ≡ numeral_or_none b.map = cc in
    let kind_same = one_plex_kind a.kind b.kind kind in
    let layout_same = one_layout a.layout b.layout layout in
    let ncol_same = one_number a.ncol b.ncol h0.0 k0.0 ncol in
    let unit_same = one_number a.unit b.unit h0.1 k0.1 unit in
    let state_same = one_plex_state a.state b.state state in
    let map_same = one_map a.map b.map h1.1 k1.1 map in
    λ i. record { name = name i; vol = vol i; kind = kind_same i; layout = layout_same i; ncol = ncol_same i; unit = unit_same i; state = state_same i; map = map_same i }

one_vol : (a b : Vol) → can_be_said (VolRecord a) ≡ true → can_be_said (VolRecord b) ≡ true → a.name ≡ b.name → values_of (VolRecord a) ≡ values_of (VolRecord b) → a ≡ b
one_vol a b h k name values =
    let hs = and_parts (is_short a.len) (is_short a.region) h in
    let ks = and_parts (is_short b.len) (is_short b.region) k in
    let len : decimal a.len ≡ decimal b.len = cc in
    let region : decimal a.region ≡ decimal b.region = cc in
    let rdpol : policy_word a.rdpol ≡ policy_word b.rdpol = cc in
    let prefer : a.prefer ≡ b.prefer = cc in
    let state : vol_state_word a.state ≡ vol_state_word b.state = cc in
    let dco : a.dco ≡ b.dco = cc in
    let len_same = one_number a.len b.len hs.0 ks.0 len in
    let region_same = one_number a.region b.region hs.1 ks.1 region in
    let rdpol_same = one_policy a.rdpol b.rdpol rdpol in
    let state_same = one_vol_state a.state b.state state in
    λ i. record { name = name i; len = len_same i; region = region_same i; rdpol = rdpol_same i; prefer = prefer i; state = state_same i; dco = dco i }

one_dco : (a b : Dco) → can_be_said (DcoRecord a) ≡ true → can_be_said (DcoRecord b) ≡ true → a.name ≡ b.name → values_of (DcoRecord a) ≡ values_of (DcoRecord b) → a ≡ b
one_dco a b h k name values =
    let vol : a.vol ≡ b.vol = cc in
    let maps : a.maps ≡ b.maps = grind (arith, nat_tests) in
    λ i. record { name = name i; vol = vol i; maps = maps i }

one_snap : (a b : Snap) → can_be_said (SnapRecord a) ≡ true → can_be_said (SnapRecord b) ≡ true → a.name ≡ b.name → values_of (SnapRecord a) ≡ values_of (SnapRecord b) → a ≡ b
one_snap a b h k name values =
    let hs = and_parts (is_short a.map) (is_short a.ofmap) h in
    let ks = and_parts (is_short b.map) (is_short b.ofmap) k in
    let vol : a.vol ≡ b.vol = cc in
    let of : a.of ≡ b.of = cc in
    let map : decimal a.map ≡ decimal b.map = cc in
    let ofmap : decimal a.ofmap ≡ decimal b.ofmap = cc in
    let map_same = one_number a.map b.map hs.0 ks.0 map in
    let ofmap_same = one_number a.ofmap b.ofmap hs.1 ks.1 ofmap in
    λ i. record { name = name i; vol = vol i; of = of i; map = map_same i; ofmap = ofmap_same i }

-- a record says one object
one_object : (a b : Object) → can_be_said a ≡ true → can_be_said b ≡ true → record_of a ≡ record_of b → a ≡ b
one_object (GroupRecord a) (GroupRecord b) h k e = ap GroupRecord (one_group a b h k (ap (λ (c : Content). c.name) e))
one_object (DiskRecord a) (DiskRecord b) h k e = ap DiskRecord (one_disk a b h k (ap (λ (c : Content). c.name) e) (ap values_in e))
one_object (SubdiskRecord a) (SubdiskRecord b) h k e = ap SubdiskRecord (one_subdisk a b h k (ap (λ (c : Content). c.name) e) (ap values_in e))
one_object (PlexRecord a) (PlexRecord b) h k e = ap PlexRecord (one_plex a b h k (ap (λ (c : Content). c.name) e) (ap values_in e))
one_object (VolRecord a) (VolRecord b) h k e = ap VolRecord (one_vol a b h k (ap (λ (c : Content). c.name) e) (ap values_in e))
one_object (DcoRecord a) (DcoRecord b) h k e = ap DcoRecord (one_dco a b h k (ap (λ (c : Content). c.name) e) (ap values_in e))
one_object (SnapRecord a) (SnapRecord b) h k e = ap SnapRecord (one_snap a b h k (ap (λ (c : Content). c.name) e) (ap values_in e))
one_object a b h k e = cc (ap (λ (c : Content). c.kind) e)

-- records say one list of objects
pub one_list : (xs ys : List Object) → list_all can_be_said xs ≡ true → list_all can_be_said ys ≡ true → map record_of xs ≡ map record_of ys → xs ≡ ys
one_list [] [] h k e = refl
one_list [] (b ∷ ys) h k e = cc
one_list (a ∷ xs) [] h k e = cc
one_list (a ∷ xs) (b ∷ ys) h k e =
    let hs = and_parts (can_be_said a) (list_all can_be_said xs) h in
    let ks = and_parts (can_be_said b) (list_all can_be_said ys) k in
    let first : record_of a ≡ record_of b = cc in
    let others : map record_of xs ≡ map record_of ys = cc in
    rw (one_object a b hs.0 ks.0 first, one_list xs ys hs.1 ks.1 others) refl
