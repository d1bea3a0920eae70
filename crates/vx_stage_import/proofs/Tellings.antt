-- What is told of a text that was judged, and of devices that give none.
use Rattle.std.proofs.Common.{◌≡◌, ◌∙◌, ◌⊎◌, ◌≤◌, ℕ, Bool, true, false, is_some, Option, Some, None, Vec, List, length, Err, refl, sym, ap, subst, inl, inr, arith}
use Rattle.std.specs.Prelude.{MatchOption, MatchBool}
use Rattle.std.specs.declared.alloc.Global.{Global}
use Rattle.std.specs.Str.{bytes_eq}
use Rattle.vx_base.specs.Named.{Word}
use Rattle.vx_header.specs.Named.{Label}
use Rattle.vx_piece.specs.Seen.{Seen}
use Rattle.vx_rules.specs.Rules.{first_broken}
use Rattle.vx_objects.specs.declared.config.Config.{Config}
use Rattle.vx_objects.specs.Config.{objects_of}
use Rattle.vx_copies.specs.Lists.{AllOf}
use Rattle.vx_copies.specs.Image.{Offer}
use Rattle.vx_confdb.specs.Texts.{text_of}
use Rattle.vx_import.specs.Looks.{Looked}
use Rattle.vx_import.specs.Answers.{IsOf, Answers, IsGiven}
use Rattle.vx_import.specs.declared.judging.Given.{Given}
use Rattle.vx_import.specs.declared.judging.ImportFault.{ImportFault}
use Rattle.vx_import.specs.declared.judging.ImportFault.TheVariants as fault
use Rattle.vx_answers.specs.declared.answer.End.{End}
use Rattle.vx_answers.specs.declared.answer.End.TheVariants as ends
use Rattle.vx_answers.specs.declared.refusal.Refusal.{Refusal}
use Rattle.vx_answers.specs.declared.refusal.Refusal.TheVariants as refusal
use Rattle.vx_started.specs.declared.started.Started.{Started}
use Rattle.vx_moments.specs.World.{World, Volume}
use Rattle.vx_moments.specs.Copies.{IsTextOf}
use Rattle.vx_stages.specs.Finding.{Candidate, FindsText, Finds, import_records}
use Rattle.vx_stages.specs.Refusals.{refusal_from}
use Rattle.vx_stages.specs.Ends.{RefusedAsLong}
use Rattle.vx_house.specs.View.{IsAtVolume}
use Rattle.vx_stage_import.specs.Finds.{candidates_of}
use Rattle.vx_stage_import.specs.Judging.{stray_in, started_in, CommitJudged, ConfigJudged, TextJudged}
use Rattle.vx_stage_import.specs.Readying.{IsReadied}
use Rattle.vx_stage_import.specs.Importing.{EndIs}
use Rattle.vx_stage_import.specs.declared.judging.Judged.TheVariants as judged
use Rattle.vx_stage_import.proofs.Conclusion.{given_concludes, lacking_concludes, none_concludes, damaged_concludes}
use Rattle.vx_stage_import.proofs.Links.{IsLinked}
use Rattle.vx_stage_import.proofs.Texts.{labels_in, config_link, text_link}

-- a volume is started in the world where the house has it
pub started_same : {P : Type 0} (see : P → Seen) (o : Option (Started P)) (v : Option Volume) → IsAtVolume see o v → is_some o ≡ is_some v
started_same see None None is = refl
started_same see None (Some v) is = absurd is
started_same see (Some b) None is = absurd is
started_same see (Some b) (Some v) is = refl

module _ (c : Config) (v : Vec ℕ Global) where
  split_bool : (b : Bool) (X : Type 0) (r : Refusal) → MatchBool b X (judged.Ready c v ≡ judged.Refused r) → (b ≡ true) × X
  split_bool true X r is = (refl, is)
  split_bool false X r is = cc

  split_option : {A : Type 0} (o : Option A) (X : Type 0) (R : A → Refusal) → MatchOption o X (λ a. judged.Ready c v ≡ judged.Refused (R a)) → (o ≡ None) × X
  split_option None X R is = (refl, is)
  split_option (Some a) X R is = cc

  record IsRead (dg : Word) (good : ℕ) (labels : List Label) (config : Config) : Type 0 where
    named : bytes_eq config.group dg ≡ true
    recorded : stray_in config.disks good labels ≡ None
    made : objects_of c ≡ import_records config
    printed : IsTextOf c v.items
    fits : length v.items ≤ 522240

  commit_read : (dg : Word) (good : ℕ) (labels : List Label) (config : Config) → bytes_eq config.group dg ≡ true → stray_in config.disks good labels ≡ None → CommitJudged config (judged.Ready c v) → IsRead dg good labels config
  commit_read dg good labels config named stray (inl (r, broken, e)) = cc
  commit_read dg good labels config named stray (inr (after, made, unbroken, (text, printed, inl (long, e)))) = cc
  commit_read dg good labels config named stray (inr (after, made, unbroken, (text, printed, inr (fits, is)))) = record {
    named = named;
    recorded = stray;
    made = ap objects_of is.0 ∙ made;
    printed = subst (λ x. IsTextOf x v.items) (sym is.0) (subst (IsTextOf after) (sym is.1) printed);
    fits = let e = ap length is.1 in omega (arith, e, fits);
  }

  config_read : (dg : Word) (good : ℕ) (labels : List Label) (started : Word → Bool) (config : Config) → ConfigJudged dg config good labels started (judged.Ready c v) → IsRead dg good labels config
  config_read dg good labels started config is =
      let one = split_bool (bytes_eq config.group dg) _ (refusal.NoObject dg) is in
      let two = split_option (stray_in config.disks good labels) _ (λ disk. refusal.NoObject disk) one.1 in
      let three = split_option (started_in started config.volumes) _ (λ name. refusal.Exists name) two.1 in
      commit_read dg good labels config one.0 two.0 three.1

  readied_by : (dg : Word) (good : ℕ) (labels : List Label) (config : Config) → IsRead dg good labels config → IsReadied dg good labels c v.items
  readied_by dg good labels config read = record { config = config; named = read.named; recorded = read.recorded; made = read.made; printed = read.printed; fits = read.fits }

  -- the configuration that a text which is ready is read as
  pub ready_of : (dg : Word) (o : Offer) (labels : List Label) (started : Word → Bool) → TextJudged dg o.text o.good labels started (judged.Ready c v) → IsReadied dg o.good labels c v.items
  ready_of dg o labels started (inl (line, bad, e)) = cc
  ready_of dg o labels started (inr (records, spells, inl (r, broken, e))) = cc
  ready_of dg o labels started (inr (records, spells, inr (config, made, is))) = readied_by dg o.good labels config (config_read dg o.good labels started config is)

  pub ready_finds : (dg : Word) (o : Offer) (cs : List Candidate) (w : World) (started : Word → Bool) (same : (name : Word) → started name ≡ is_some (w.volumes name)) (judged : TextJudged dg o.text o.good (labels_in cs) started (judged.Ready c v)) (T : Config → Type 0) → T (ready_of dg o (labels_in cs) started judged).config → FindsText dg w o cs (λ r. ⊥) T
  unfolding ready_of readied_by
  ready_finds dg o cs w started same (inl (line, bad, e)) T t = cc
  ready_finds dg o cs w started same (inr (records, spells, inl (r, broken, e))) T t = cc
  ready_finds dg o cs w started same (inr (records, spells, inr (config, made, is))) T t =
      inr (records, spells, inr (config, made, config_link dg o cs w (judged.Ready c v) (λ r. ⊥) (λ x. T config) (λ r e. cc) (λ x judges. t) started same config is))

-- what becomes of a text that is refused
module _ (dg : Word) (o : Offer) (cs : List Candidate) (w : World) (started : Word → Bool) (same : (name : Word) → started name ≡ is_some (w.volumes name)) (why : Refusal) where
  abbrev pub Breaks : Config → Type 0
  Breaks config = (refusal_from (first_broken (import_records config)) ≡ Some why) ⊎ ((after : Config) × (objects_of after ≡ import_records config) × RefusedAsLong after (ends.Refused why))

  same_why : (r : Refusal) → judged.Refused why ≡ judged.Refused r → r ≡ why
  same_why r e = cc

  breaks : (config : Config) → CommitJudged config (judged.Refused why) → Breaks config
  breaks config (inl (r, broken, e)) = inl (broken ∙ ap (λ x. Some x) (same_why r e))
  breaks config (inr (after, made, unbroken, (text, printed, inl (long, e)))) = inr (after, made, (text, printed, long, ap (λ x. ends.Refused x) (sym (same_why (refusal.TooLong (length text)) e))))
  breaks config (inr (after, made, unbroken, (text, printed, inr (fits, is)))) = absurd is

  pub refused_finds : TextJudged dg o.text o.good (labels_in cs) started (judged.Refused why) → FindsText dg w o cs (λ r. r ≡ why) Breaks
  refused_finds is = text_link dg o cs w (judged.Refused why) (λ r. r ≡ why) Breaks same_why breaks started same is

-- devices that give no configuration
module _ (dg : Word) (w : World) (unread : Word → Bool) (fs : List Looked) (all : AllOf (IsLinked unread) fs) (of : AllOf (IsOf dg) fs) (T : Offer → Config → Type 0) where
  pub fault_finds : (f : ImportFault) (end : End) → EndIs f dg end → (f ≡ fault.PowerLost → ⊥) → Answers (Err f) dg fs → (why : Refusal) × (end ≡ ends.Refused why) × Finds dg w unread (candidates_of fs) (λ r. r ≡ why) T
  fault_finds fault.OutOfMemory end is on answers = absurd is
  fault_finds fault.PowerLost end is on answers = absurd (on refl)
  fault_finds fault.NoGroup end is on answers = (refusal.NoGroup (Some dg), is, none_concludes dg unread w (λ r. r ≡ refusal.NoGroup (Some dg)) T fs all of answers refl)
  fault_finds (fault.Damaged disk byte) end is on answers = (refusal.Damaged disk byte, is, damaged_concludes dg unread w (λ r. r ≡ refusal.Damaged disk byte) T fs all of (record { disk = disk; byte = byte }) answers refl)
  fault_finds (fault.Missing slot text) end (disk, named, is) on answers = (refusal.Missing disk, is, lacking_concludes dg unread w (λ r. r ≡ refusal.Missing disk) T fs all of slot (text_of text) disk answers named refl)

  -- a configuration is given: what becomes of its text is what becomes of the import
  pub given_finds : (R : Refusal → Type 0) (g : Given) → IsGiven dg g fs → FindsText dg w (record { sequence = g.sequence; good = g.good; text = text_of g.text }) (candidates_of fs) R (T (record { sequence = g.sequence; good = g.good; text = text_of g.text })) → Finds dg w unread (candidates_of fs) R T
  given_finds R g is finds = given_concludes dg unread w R T fs all of g.sequence g.good (text_of g.text) is.chosen is.low is.whole is.there finds
