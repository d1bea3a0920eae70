-- What records say, one by one and together.
use Rattle.std.specs.Prelude.{IfOk}
use Rattle.std.specs.List.{list_all}
use Rattle.std.proofs.Common.{◌≡◌, ℕ, true, ◌+◌, ◌<◌, None, Result, Ok, Err, List, [], ◌∷◌, ◌++◌, map, take, length, get_or, refl, sym, ◌∙◌, ap, subst}
use Rattle.std.proofs.lemmas.List.{take_more}
use Rattle.std.proofs.lemmas.List.Folds.{list_all-append}
use Rattle.vx_record.specs.Content.{Content}
use Rattle.vx_config_parts.specs.declared.object.Object.{Object}
use Rattle.vx_config_parts.specs.declared.fault.ObjectFault.{ObjectFault}
use Rattle.vx_rules.specs.Rules.{first_broken}
use Rattle.vx_objects.specs.declared.config.Config.{Config}
use Rattle.vx_objects.specs.Config.{objects_of, IsMadeOf}
use Rattle.vx_objects.specs.Parts.{in_kinds}
use Rattle.vx_objects.specs.Printed.{record_of, cut, can_be_said, IsReadAs, AreReadAs, IsReadOf}
use Rattle.vx_objects.proofs.Numbers.{held, valid_none}

map_push : {A B : Type 0} (f : A → B) (xs : List A) (x : A) → map f (xs ++ x ∷ []) ≡ map f xs ++ f x ∷ []
map_push f [] x = refl
map_push f (y ∷ xs) x = rw (map_push f xs x) refl

push_said : (os : List Object) (o : Object) → list_all can_be_said os ≡ true → can_be_said o ≡ true → list_all can_be_said (os ++ o ∷ []) ≡ true
push_said os o h k = list_all-append can_be_said os (o ∷ []) ∙ rw (h, k) refl

push : (cs : List Content) (os : List Object) (c : Content) (o : Object) → AreReadAs cs os → IsReadAs c o → AreReadAs (cs ++ c ∷ []) (os ++ o ∷ [])
push cs os c o many one =
    (many.0 ++ one.0 ∷ [], (map_push record_of many.0 one.0 ∙ rw (many.1.0, one.1.0) refl, push_said many.0 one.0 many.1.1 one.1.1), map_push cut many.0 one.0 ∙ rw (many.2, one.2) refl)

pub read_more : (cs : List Content) (i : ℕ) (c : Content) (os new : List Object) (o : Object) → i < length cs → c ≡ get_or cs i c → AreReadAs (take i cs) os → IsReadAs c o → new ≡ os ++ o ∷ [] → AreReadAs (take (i + 1) cs) new
read_more cs i c os new o lt is many one e =
    let more : AreReadAs (take i cs ++ c ∷ []) (os ++ o ∷ []) = push (take i cs) os c o many one in
    rw (e, take_more cs i c lt, sym is) more

pub read_made : (cs : List Content) (all : List Object) (config : Config) → AreReadAs cs all → IsMadeOf all config → IsReadOf cs config
read_made cs all config read made =
    let none = valid_none (objects_of config) config.valid in
    let fits : first_broken (in_kinds (map cut read.0)) ≡ None = subst (λ (xs : List Object). first_broken xs ≡ None) (made ∙ ap (λ (xs : List Object). in_kinds xs) (sym read.2)) none in
    (read.0, read.1, made ∙ ap (λ (xs : List Object). in_kinds xs) (sym read.2 ∙ held read.0 fits))

pub ok_read : (r : Result Config ObjectFault) (cs : List Content) (all now : List Object) → now ≡ all → IfOk r (λ config. IsMadeOf now config) → AreReadAs cs all → IfOk r (λ config. IsReadOf cs config)
ok_read (Ok config) cs all now e made read = read_made cs all config read (subst (λ (xs : List Object). IsMadeOf xs config) e made)
ok_read (Err fault) cs all now e made read = tt
