-- What an import finds of a group that was left behind: its configuration, and its good members.
use Rattle.std.proofs.Common.{◌≡◌, ◌⊎◌, ℕ, zero, suc, ◌+◌, ◌<◌, ◌≤◌, ◌^◌, Bool, true, false, cond, not, ◌==◌, nat_lt, List, [], ◌∷◌, length, take, map, Option, Some, None, is_some, is_none, refl, sym, ◌∙◌, ap, subst, inl, inr, arith}
use Rattle.std.specs.Prelude.{replicate, if◌then◌else◌}
use Rattle.std.specs.List.{list_all, filter}
use Rattle.std.specs.List.Sorted.{IsPermutation}
use Rattle.std.specs.Str.{bytes_eq}
use Rattle.std.proofs.Math.Seq.{take-append_seam}
use Rattle.std.proofs.lemmas.Bool.{and_parts, lt-ltb, le-ltb}
use Rattle.vx_base.specs.Blocks.{Contents}
use Rattle.vx_base.specs.Named.{Word}
use Rattle.vx_base.proofs.NamedLemmas.{bytes_eq_self}
use Rattle.vx_mask.specs.Mask.{has}
use Rattle.vx_header.specs.Named.{Label, header_of}
use Rattle.vx_header.specs.Said.{Said, toggle_of}
use Rattle.vx_header.proofs.Toggles.{said_spells}
use Rattle.vx_copies.specs.Lists.{AllOf, AnyOf}
use Rattle.vx_copies.specs.Image.{Offer, offer_in, offer_of, offer_if, offer_by, toggle_at, names_group, text_in, higher, highest}
use Rattle.vx_record.specs.Content.{Content}
use Rattle.vx_record.proofs.Faults.{spells_one, not_bad}
use Rattle.vx_config_parts.specs.declared.vol.Vol.{Vol}
use Rattle.vx_config_parts.specs.declared.object.Object.{Object}
use Rattle.vx_objects.specs.declared.config.Config.{Config}
use Rattle.vx_objects.specs.Config.{objects_of}
use Rattle.vx_objects.specs.Printed.{record_of, IsReadOf}
use Rattle.vx_answers.specs.declared.refusal.Refusal.{Refusal}
use Rattle.vx_moments.specs.World.{World, Device, Member, Group}
use Rattle.vx_moments.specs.Copies.{label_of, IsCurrent}
use Rattle.vx_stages.specs.Finding.{Candidate, IsCandidate, AreRising, AreCounted, IsUpTo, offers_of, is_damaged, is_damaged_one, first_that, missing_from, is_recorded, good_ones, member_of, members_of, IsBrokenBy, FindsConfig, FindsText, FindsAll, FindsOffer, Finds}
use Rattle.vx_laws.specs.Returning.{SlotsRise, HasJustDisks, IsKeptOn, nobody, IsDeviceOf, IsOutdated, IsLeftBehind, good_members}
use Rattle.vx_laws.proofs.ListFacts.{at_found, at_test, clash, either, both_ways, is_equal, not_past, and_second, and_unless, guarded, any_gives, any_with, any_map, any_all, all_map, all_all, all_filter, all_filtered, list_any_from, first_none, any_filter, all_mapped, any_mapped}
use Rattle.vx_laws.proofs.Orderless.{is_plain, all_permuted}
use Rattle.vx_laws.proofs.SecondReads.{IsSpelled, all_with, spelled, none_broken, read_is}
use Rattle.vx_laws.proofs.Records.{names_group as is_named, same_recorded, just_disks}
use Rattle.vx_laws.proofs.Commits.{one_device}

-- ---- what a device offers

-- what a disk offers that holds the text
offer_is : (group : Word) (sequence good : ℕ) (text : List ℕ) (contents : Contents) (l : Label) → header_of (contents 0) ≡ Some l → l.group ≡ group → IsCurrent sequence good text contents → offer_in group contents ≡ Some (record { sequence = sequence; good = good; text = text })
unfolding offer_in offer_of text_in
offer_is group sequence good text contents l header own current =
    let named : names_group group (header_of (contents 0)) ≡ true = ap (names_group group) header ∙ ap (λ (x : Word). bytes_eq x group) own ∙ bytes_eq_self group in
    let read : text_in current.half (length text) contents ≡ text = ap (take (length text)) current.holds ∙ take-append_seam text _ in
    ap (λ (b : Bool). offer_if b (offer_by (toggle_at contents) contents)) named
    ∙ ap (λ (o : Option Said). offer_by o contents) current.says
    ∙ ap (λ (t : List ℕ). Some (record { sequence = sequence; good = good; text = t })) read

has_toggle : (sequence good : ℕ) (text : List ℕ) (contents : Contents) → IsCurrent sequence good text contents → is_none (toggle_of (contents 1)) ≡ false
unfolding toggle_at
has_toggle sequence good text contents current = ap is_none current.says

-- a text that a disk offers is short enough to be written again
pub current_short : (sequence good : ℕ) (text : List ℕ) (contents : Contents) → IsCurrent sequence good text contents → length text ≤ 522240
unfolding toggle_at
current_short sequence good text contents current = (said_spells (contents 1) _ current.says).fits.text

-- ---- the highest of offers

-- it is this offer, or none as new
abbrev IsUpToOffer : Offer → Option Offer → Type 0
IsUpToOffer top o = (o ≡ Some top) ⊎ ((p : Offer) → o ≡ Some p → p.sequence < top.sequence)

-- the top comes before what is no newer
top_first : (top : Offer) (b : Option Offer) → IsUpToOffer top b → higher (Some top) b ≡ Some top
top_first top None up = refl
top_first top (Some y) up =
    let low : y.sequence ≤ top.sequence = either (λ e. let same : y ≡ top = cc in let s = ap (λ (o : Offer). o.sequence) same in omega (arith, s)) (λ f. let s = f y refl in omega (arith, s)) up in
    ap (λ (t : Bool). if t then Some y else Some top) (le-ltb top.sequence y.sequence low)

-- and behind what is older
top_behind : (top : Offer) (a : Option Offer) → IsUpToOffer top a → higher a (Some top) ≡ Some top
top_behind top None up = refl
top_behind top (Some x) (inl e) = ap (λ (o : Option Offer). higher o (Some top)) e ∙ top_first top (Some top) (inl refl)
top_behind top (Some x) (inr f) = ap (λ (t : Bool). if t then Some top else Some x) (lt-ltb x.sequence top.sequence (f x refl))

higher_up : (top : Offer) (a b : Option Offer) → IsUpToOffer top a → IsUpToOffer top b → IsUpToOffer top (higher a b)
higher_up top a b (inl e) up = inl (ap (λ (o : Option Offer). higher o b) e ∙ top_first top b up)
higher_up top a b up (inl e) = inl (ap (λ (o : Option Offer). higher a o) e ∙ top_behind top a up)
higher_up top None b up (inr f) = inr f
higher_up top (Some x) None up down = up
higher_up top (Some x) (Some y) (inr f) (inr g) = chosen (nat_lt x.sequence y.sequence)
  where
    chosen : (t : Bool) → IsUpToOffer top (if t then Some y else Some x)
    chosen true = inr g
    chosen false = inr f

all_up : (top : Offer) (os : List (Option Offer)) → AllOf (IsUpToOffer top) os → IsUpToOffer top (highest os)
all_up top [] all = inr (λ p e. cc)
all_up top (o ∷ os) all = higher_up top o (highest os) all.0 (all_up top os all.1)

highest_is : (top : Offer) (os : List (Option Offer)) → AllOf (IsUpToOffer top) os → AnyOf (λ o. o ≡ Some top) os → highest os ≡ Some top
highest_is top [] all any = absurd any
highest_is top (o ∷ os) all (inl here) = ap (λ (x : Option Offer). higher x (highest os)) here ∙ top_first top (highest os) (all_up top os all.1)
highest_is top (o ∷ os) all (inr any) = ap (λ (x : Option Offer). higher o x) (highest_is top os all.1 any) ∙ top_behind top o all.0

-- ---- members in the order of their slots

-- the slots of some of the candidates rise where those of all do
still_rise : (test : Candidate → Bool) (cs : List Candidate) → AreRising cs → SlotsRise (map member_of (filter test cs))
still_rise test [] up = tt
still_rise test (c ∷ cs) up = behind (test c) (still_rise test cs up.1)
  where
    behind : (b : Bool) → SlotsRise (map member_of (filter test cs)) → SlotsRise (map member_of (cond b (c ∷ filter test cs) (filter test cs)))
    behind true rest =
        (all_mapped member_of (λ n. c.label.slot < n.slot) (filter test cs) (all_filter test (λ x. c.label.slot < x.label.slot) cs (all_map (λ x. c.label.slot < x.label.slot) (λ x. test x ≡ true → c.label.slot < x.label.slot) cs (λ x lt on. lt) up.0)), rest)
    behind false rest = rest

-- these members are among those, and have all their slots
abbrev AreAmong : List Member → List Member → Type 0
AreAmong ms ns = AllOf (λ m. AnyOf (λ n. m ≡ n) ns) ms

abbrev HaveSlots : List Member → List Member → Type 0
HaveSlots ms ns = AllOf (λ n. AnyOf (λ m. m.slot ≡ n.slot) ms) ns

-- the first of two such lists that rise is the same
first_same : (m n : Member) (ms ns : List Member) → SlotsRise (m ∷ ms) → SlotsRise (n ∷ ns) → AnyOf (λ k. m ≡ k) (n ∷ ns) → AnyOf (λ k. k.slot ≡ n.slot) (m ∷ ms) → m ≡ n
first_same m n ms ns up rise (inl e) back = e
first_same m n ms ns up rise (inr any) back =
    any_with (λ k. n.slot < k.slot) (λ k. m ≡ k) ns
    (λ k lt e.
    let s = ap (λ (j : Member). j.slot) e in
    either (λ (f : m.slot ≡ n.slot). absurd (omega (arith, lt, s, f)))
    (λ (rest : AnyOf (λ j. j.slot ≡ n.slot) ms). any_with (λ j. m.slot < j.slot) (λ j. j.slot ≡ n.slot) ms (λ j above f. absurd (omega (arith, lt, s, above, f))) up.0 rest) back)
    rise.0 any

-- and so are all
same_members : (ms ns : List Member) → SlotsRise ms → SlotsRise ns → AreAmong ms ns → HaveSlots ms ns → ms ≡ ns
same_members [] [] up rise there back = refl
same_members [] (n ∷ ns) up rise there back = absurd back.0
same_members (m ∷ ms) [] up rise there back = absurd there.0
same_members (m ∷ ms) (n ∷ ns) up rise there back =
    let one : m ≡ n = first_same m n ms ns up rise there.0 back.0 in
    let s = ap (λ (k : Member). k.slot) one in
    let more : ms ≡ ns =
    same_members ms ns up.1 rise.1
    (all_all (λ k. m.slot < k.slot) (λ k. AnyOf (λ j. k ≡ j) (n ∷ ns)) (λ k. AnyOf (λ j. k ≡ j) ns) ms (λ k lt any. either (λ e. let t = ap (λ (j : Member). j.slot) e in absurd (omega (arith, lt, s, t))) (λ rest. rest) any) up.0 there.1)
    (all_all (λ k. n.slot < k.slot) (λ k. AnyOf (λ j. j.slot ≡ k.slot) (m ∷ ms)) (λ k. AnyOf (λ j. j.slot ≡ k.slot) ms) ns (λ k lt any. either (λ e. absurd (omega (arith, lt, s, e))) (λ rest. rest) any) rise.0 back.1) in
    cc

-- ---- the devices that count

-- the candidate is this member's device, on which the group is kept
record IsKeptFor (g : Group) (text : List ℕ) (c : Candidate) (m : Member) : Type 0 where
  member : member_of c ≡ m
  recorded : is_recorded g.config c.label ≡ true
  current : IsCurrent g.sequence g.good text c.device.contents

-- the candidate is a good member's device
record IsMine (g : Group) (text : List ℕ) (c : Candidate) : Type 0 where
  member : AnyOf (λ m. member_of c ≡ m) (good_members g)
  recorded : is_recorded g.config c.label ≡ true
  current : IsCurrent g.sequence g.good text c.device.contents

-- it is, or it is outdated
abbrev IsSorted : Group → List ℕ → Candidate → Type 0
IsSorted g text c = IsMine g text c ⊎ IsOutdated g c

one_label : (o : Option Label) (a b : Label) → o ≡ Some a → o ≡ Some b → a ≡ b
one_label o a b e f = cc

kept_for : (g : Group) (w : World) (text : List ℕ) (c : Candidate) → IsCandidate g.config.group nobody w c → (m : Member) → IsKeptOn g text w m → m.device ≡ c.name → IsKeptFor g text c m
kept_for g w text c is m k name =
    let same : k.device ≡ c.device = one_device (w.devices c.name) k.device c.device (ap w.devices (sym name) ∙ k.device_is) is.device_is in
    let label : c.label ≡ label_of g.config.group m k.device = one_label (header_of (k.device.contents 0)) c.label (label_of g.config.group m k.device) (ap (λ (d : Device). header_of (d.contents 0)) same ∙ is.header) k.header in
    let slot = ap (λ (l : Label). l.slot) label in
    let disk = ap (λ (l : Label). l.disk) label in
    record {
      member = λ i. record { device = sym name i; disk = disk i; slot = slot i };
      recorded = subst (λ (l : Label). is_recorded g.config l ≡ true) (sym label) k.recorded;
      current = subst (λ (d : Device). IsCurrent g.sequence g.good text d.contents) same k.current;
    }

mine_by : (g : Group) (text : List ℕ) (c : Candidate) → AnyOf (IsKeptFor g text c) (good_members g) → IsMine g text c
mine_by g text c any = record {
  member = any_map (IsKeptFor g text c) (λ m. member_of c ≡ m) (good_members g) (λ m k. k.member) any;
  recorded = any_gives (IsKeptFor g text c) (good_members g) (λ m k. k.recorded) any;
  current = any_gives (IsKeptFor g text c) (good_members g) (λ m k. k.current) any;
}

-- one of a good slot is a good member's
mine_if_good : (g : Group) (text : List ℕ) (c : Candidate) → IsSorted g text c → has g.good c.label.slot ≡ true → IsMine g text c
mine_if_good g text c (inl mine) on = mine
mine_if_good g text c (inr old) on = both_ways (has g.good c.label.slot) on old.slot

module _ (g : Group) (w : World) (left : IsLeftBehind g w) where
  sorted : (c : Candidate) → IsCandidate g.config.group nobody w c → IsSorted g left.text c
  sorted c is =
      either
      (λ (any : IsDeviceOf (good_members g) c.name). inl (mine_by g left.text c (any_all (IsKeptOn g left.text w) (λ m. m.device ≡ c.name) (IsKeptFor g left.text c) (good_members g) (λ m k at. kept_for g w left.text c is m k at) left.kept any)))
      (λ (old : IsOutdated g c). inr old) (left.others c is)

  -- ---- the configuration

  -- the text spells the records of the configuration
  pub in_text : IsSpelled g.config left.text
  in_text = spelled g.config left.just_disks left.text left.text_is

  pub same_objects : (config : Config) → objects_of config ≡ in_text.os → IsPermutation (objects_of g.config) (objects_of config)
  same_objects config e = subst (λ (os : List Object). IsPermutation (objects_of g.config) os) (sym e) in_text.are.same

  pub disks_alone : (config : Config) → objects_of config ≡ in_text.os → HasJustDisks config
  disks_alone config e = just_disks config (subst (λ (os : List Object). list_all is_plain os ≡ true) (sym e) in_text.are.plain)

  -- a configuration of the same records has the group's name
  pub named : (config : Config) → objects_of config ≡ in_text.os → bytes_eq config.group g.config.group ≡ true
  named config e =
      let names : list_all (is_named g.config.group) (objects_of config) ≡ true =
      all_permuted (is_named g.config.group) (objects_of g.config) (objects_of config) (same_objects config e) (all_with g.config left.just_disks (is_named g.config.group) (bytes_eq_self g.config.group) (λ d. refl)) in
      (and_parts (bytes_eq config.group g.config.group) _ names).0

module _ (g : Group) (w : World) (left : IsLeftBehind g w) (cs : List Candidate) (count : AreCounted g.config.group nobody w cs) where
  all_sorted : AllOf (IsSorted g left.text) cs
  all_sorted = all_map (IsCandidate g.config.group nobody w) (IsSorted g left.text) cs (λ c is. sorted g w left c is) count.each

  -- each good member's slot has a candidate
  each_counted : AllOf (λ m. AnyOf (λ c. c.label.slot ≡ m.slot) cs) (good_members g)
  each_counted =
      all_map (IsKeptOn g left.text w) (λ m. AnyOf (λ c. c.label.slot ≡ m.slot) cs) (good_members g)
      (λ m k.
      let own : Candidate = record { name = m.device; device = k.device; label = label_of g.config.group m k.device } in
      any_map (λ d. (d.label.slot ≡ m.slot) × IsUpTo d.name m.device) (λ c. c.label.slot ≡ m.slot) cs (λ c h. h.0)
      (count.first own (record { free = k.free; device_is = k.device_is; present = refl; header = k.header; group_is = refl; size = refl })))
      left.kept

  slot_counted : (slot : ℕ) → has g.good slot ≡ true → AnyOf (λ c. c.label.slot ≡ slot) cs
  slot_counted slot is =
      any_with (λ m. AnyOf (λ c. c.label.slot ≡ m.slot) cs) (λ m. m.slot ≡ slot) (good_members g)
      (λ m any e. subst (λ (s : ℕ). AnyOf (λ c. c.label.slot ≡ s) cs) e any) each_counted (left.placed slot is)

  -- ---- the offer

  abbrev pub top : Offer
  top = record { sequence = g.sequence; good = g.good; text = left.text }

  offers_top : (c : Candidate) → IsCandidate g.config.group nobody w c → IsMine g left.text c → offer_in g.config.group c.device.contents ≡ Some top
  offers_top c is mine = offer_is g.config.group g.sequence g.good left.text c.device.contents c.label is.header is.group_is mine.current

  up_to : (c : Candidate) → IsCandidate g.config.group nobody w c → IsSorted g left.text c → IsUpToOffer top (offer_in g.config.group c.device.contents)
  up_to c is (inl mine) = inl (offers_top c is mine)
  up_to c is (inr old) = inr old.older

  one_mine : AnyOf (IsMine g left.text) cs
  one_mine = of (good_members g) left.some (all_filtered (λ m. has g.good m.slot) g.members)
    where
      of : (ms : List Member) → (ms ≡ [] → ⊥) → AllOf (λ m. has g.good m.slot ≡ true) ms → AnyOf (IsMine g left.text) cs
      of [] some good = absurd (some refl)
      of (m ∷ ms) some good =
          any_all (IsSorted g left.text) (λ c. c.label.slot ≡ m.slot) (IsMine g left.text) cs
          (λ c sort e. mine_if_good g left.text c sort (subst (λ (s : ℕ). has g.good s ≡ true) (sym e) good.0)) all_sorted (slot_counted m.slot good.0)

  offered : highest (offers_of g.config.group nobody cs) ≡ Some top
  offered =
      let Offers : Candidate → Option Offer = λ c. if nobody c.name then None else offer_in g.config.group c.device.contents in
      highest_is top (offers_of g.config.group nobody cs)
      (all_mapped Offers (IsUpToOffer top) cs (all_all (IsCandidate g.config.group nobody w) (IsSorted g left.text) (λ c. IsUpToOffer top (Offers c)) cs (λ c is sort. up_to c is sort) count.each all_sorted))
      (any_mapped Offers (λ o. o ≡ Some top) cs (any_all (IsCandidate g.config.group nobody w) (IsMine g left.text) (λ c. Offers c ≡ Some top) cs (λ c is mine. offers_top c is mine) count.each one_mine))

  -- ---- nothing is damaged, missing or not recorded

  undamaged : first_that (is_damaged_one nobody (λ c. has g.good c.label.slot)) cs ≡ None
  undamaged =
      first_none (is_damaged_one nobody (λ c. has g.good c.label.slot)) cs
      (all_map (IsSorted g left.text) (λ c. is_damaged_one nobody (λ c. has g.good c.label.slot) c ≡ false) cs
      (λ c sort.
      and_unless (is_damaged c.device) (has g.good c.label.slot)
      (λ on. and_second (not (bytes_eq (c.device.contents 1) (replicate 512 0))) (is_none (toggle_of (c.device.contents 1))) (has_toggle g.sequence g.good left.text c.device.contents (mine_if_good g left.text c sort on).current)))
      all_sorted)

  none_missing : (n slot : ℕ) → missing_from n slot g.good nobody cs ≡ None
  none_missing zero slot = refl
  none_missing (suc n) slot =
      ap (λ (b : Bool). if b then Some slot else missing_from n (slot + 1) g.good nobody cs)
      (guarded (has g.good slot) _ (λ on. list_any_from (λ c. c.label.slot == slot) (λ c. c.label.slot ≡ slot) cs (λ c e. is_equal c.label.slot slot e) (slot_counted slot on)))
      ∙ none_missing n (slot + 1)

  all_recorded : (config : Config) → IsPermutation (objects_of g.config) (objects_of config) → first_that (λ c. not (is_recorded config c.label)) (good_ones g.good cs) ≡ None
  all_recorded config same =
      first_none (λ c. not (is_recorded config c.label)) (good_ones g.good cs)
      (all_filter (λ c. has g.good c.label.slot) (λ c. not (is_recorded config c.label) ≡ false) cs
      (all_map (IsSorted g left.text) (λ c. has g.good c.label.slot ≡ true → not (is_recorded config c.label) ≡ false) cs (λ c sort on. ap not (same_recorded g.config config c.label same (mine_if_good g left.text c sort on).recorded)) all_sorted))

  -- ---- the good members

  pub members_back : members_of g.good cs ≡ good_members g
  members_back =
      same_members (members_of g.good cs) (good_members g) (still_rise (λ c. has g.good c.label.slot) cs count.rising) left.rising
      (all_mapped member_of (λ m. AnyOf (λ n. m ≡ n) (good_members g)) (good_ones g.good cs)
      (all_filter (λ c. has g.good c.label.slot) (λ c. AnyOf (λ n. member_of c ≡ n) (good_members g)) cs
      (all_map (IsSorted g left.text) (λ c. has g.good c.label.slot ≡ true → AnyOf (λ n. member_of c ≡ n) (good_members g)) cs (λ c sort on. (mine_if_good g left.text c sort on).member) all_sorted)))
      (all_map (λ m. has g.good m.slot ≡ true) (λ n. AnyOf (λ m. m.slot ≡ n.slot) (members_of g.good cs)) (good_members g)
      (λ n on.
      any_mapped member_of (λ m. m.slot ≡ n.slot) (good_ones g.good cs)
      (any_filter (λ c. has g.good c.label.slot) (λ c. c.label.slot ≡ n.slot) cs (λ c e. subst (λ (s : ℕ). has g.good s ≡ true) (sym e) on) (slot_counted n.slot on)))
      (all_filtered (λ m. has g.good m.slot) g.members))

  -- ---- what is found

  module _ (Refused : Refusal → Type 0) (Taken : Offer → Config → Type 0) where
    -- a configuration of the same records is taken
    abbrev pub IsTaken : Type 0
    IsTaken = (config : Config) × (objects_of config ≡ (in_text g w left).os) × Taken top config

    config_taken : (config : Config) → objects_of config ≡ (in_text g w left).os → FindsConfig g.config.group w top cs config Refused (Taken top) → IsTaken
    config_taken config e h =
        let free : first_that (λ v. is_some (w.volumes v.name)) config.volumes ≡ None = ap (λ (vs : List Vol). first_that (λ v. is_some (w.volumes v.name)) vs) (disks_alone g w left config e).volumes in
        at_test (bytes_eq config.group g.config.group)
        (λ own k.
        at_found (first_that (λ c. not (is_recorded config c.label)) (good_ones g.good cs))
        (λ all l.
        at_found (first_that (λ v. is_some (w.volumes v.name)) config.volumes) (λ no m. (config, e, m)) (λ v here m. clash (first_that (λ v. is_some (w.volumes v.name)) config.volumes) v free here) l)
        (λ c here l. clash (first_that (λ c. not (is_recorded config c.label)) (good_ones g.good cs)) c (all_recorded config (same_objects g w left config e)) here) k)
        (λ other k. both_ways (bytes_eq config.group g.config.group) (named g w left config e) other) h

    text_taken : FindsText g.config.group w top cs Refused (Taken top) → IsTaken
    text_taken (inl h) = absurd (not_bad left.text (map record_of (in_text g w left).os) h.0 (in_text g w left).spells h.1)
    text_taken (inr h) =
        let same : h.0 ≡ map record_of (in_text g w left).os = spells_one left.text h.0 (map record_of (in_text g w left).os) h.1 (in_text g w left).spells in
        either
        (λ u. none_broken g.config (in_text g w left).os (in_text g w left).are u.0 (subst (λ (rs : List Content). IsBrokenBy rs u.0) same u.1))
        (λ r. config_taken r.0 (read_is g.config (in_text g w left).os (in_text g w left).are r.0 (subst (λ (rs : List Content). IsReadOf rs r.0) same r.1)) r.2) h.2

    all_taken : FindsAll g.config.group w nobody top cs Refused (Taken top) → IsTaken
    all_taken h = at_found (missing_from 32 0 g.good nobody cs) (λ all k. text_taken k) (λ slot gone k. clash (missing_from 32 0 g.good nobody cs) slot (none_missing 32 0) gone) h

    offer_taken : g.sequence ≤ 2 ^ 63 → FindsOffer g.config.group w nobody top cs Refused (Taken top) → IsTaken
    offer_taken low h =
        at_test (nat_lt (2 ^ 63) g.sequence) (λ high k. both_ways (nat_lt (2 ^ 63) g.sequence) high (not_past (2 ^ 63) g.sequence low))
        (λ up k. at_found (first_that (is_damaged_one nobody (λ c. has g.good c.label.slot)) cs) (λ whole l. all_taken l) (λ c hurt l. clash (first_that (is_damaged_one nobody (λ c. has g.good c.label.slot)) cs) c undamaged hurt) k) h

    pub finds_taken : g.sequence ≤ 2 ^ 63 → Finds g.config.group w nobody cs Refused Taken → IsTaken
    finds_taken low h =
        at_found (highest (offers_of g.config.group nobody cs)) (λ nothing k. clash (highest (offers_of g.config.group nobody cs)) top nothing offered)
        (λ p here k.
        let known = offered in
        let same : p ≡ top = cc in
        offer_taken low (subst (λ (o : Offer). FindsOffer g.config.group w nobody o cs Refused (Taken o)) same k)) h
