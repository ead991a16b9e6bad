-- What labels say of a name, one label after another.
use Rattle.std.proofs.Common.{◌≡◌, ℕ, ◌+◌, ◌<◌, length, take, drop, List, [], ◌∷◌, ◌++◌, true, false, Option, Some, None, refl, sym, ◌∙◌, ap, append_assoc, ⊎_elim}
use Rattle.std.specs.Borrow.{Bor}
use Rattle.std.specs.BTreeMap.{BTreeMap}
use Rattle.std.specs.Map.{update}
use Rattle.std.specs.Option.{unwrap_or, is_some}
use Rattle.std.specs.Str.{bytes_eq}
use Rattle.std.specs.Prelude.{slice_index_or}
use Rattle.std.proofs.lemmas.Bool.{cases_Bool}
use Rattle.std.proofs.lemmas.List.{take_more, take-append-drop}
use Rattle.std.proofs.lemmas.Slice.Eq.{bytes_eq-Decides}
use Rattle.pf_machine.specs.declared.code.Label.{Label}
use Rattle.pf_machine.specs.declared.code.Line.{Line}
use Rattle.pf_machine.specs.declared.code.Line.TheVariants.{Vector, Control as Controls}
use Rattle.pf_machine.specs.Steps.Places.{jump_label, labelled, found, Finds}
use Rattle.pf_machine.specs.Meaning.Machines.{destination, destination_of}
use Rattle.pf_machine.specs.Meaning.MachineSteps.{place_of}

-- a list up to and with an item
pub take_item : {X : Type 0} (xs : List X) (i : ℕ) (x : X) → i < length xs → x ≡ slice_index_or xs i x → take (i + 1) xs ≡ take i xs ++ x ∷ []
take_item xs i x within is =
    let more : take (i + 1) xs ≡ take i xs ++ slice_index_or xs i x ∷ [] = take_more xs i x within in
    cc

pub split_item : {X : Type 0} (xs : List X) (i : ℕ) (x : X) → i < length xs → x ≡ slice_index_or xs i x → xs ≡ take i xs ++ x ∷ drop (i + 1) xs
split_item xs i x within is =
    let more : take (i + 1) xs ≡ take i xs ++ x ∷ [] = take_item xs i x within is in
    sym (take-append-drop (i + 1) xs) ∙ ap (λ ys. ys ++ drop (i + 1) xs) more ∙ append_assoc (take i xs) (x ∷ []) (drop (i + 1) xs)

-- with one label more, names that had none and are its own stand where it stands
pub labelled-push : (ls : List Label) (l : Label) (name : List ℕ)
    → labelled (ls ++ l ∷ []) name ≡ update bytes_eq (labelled ls) l.name (Some (unwrap_or (labelled ls l.name) l.before)) name
labelled-push [] l name = refl
labelled-push (first ∷ ls) l name =
    let rest = labelled-push ls l name in
    ⊎_elim
    (λ (here : bytes_eq l.name name ≡ true).
    let same : l.name ≡ name = (bytes_eq-Decides l.name name).0 here in
    ⊎_elim
    (λ (found : bytes_eq first.name name ≡ true).
    let known : bytes_eq first.name l.name ≡ true = rw same found in
    rw (here, found, known) refl)
    (λ (other : bytes_eq first.name name ≡ false).
    let unknown : bytes_eq first.name l.name ≡ false = rw same other in
    let rest_here : labelled (ls ++ l ∷ []) name ≡ Some (unwrap_or (labelled ls l.name) l.before) = rw here at rest in
    rw (here, other, unknown) rest_here)
    (cases_Bool (bytes_eq first.name name)))
    (λ (apart : bytes_eq l.name name ≡ false).
    let rest_apart : labelled (ls ++ l ∷ []) name ≡ labelled ls name = rw apart at rest in
    rw (apart, rest_apart) refl)
    (cases_Bool (bytes_eq l.name name))

-- a name that is there already stays where it is
known_kept : (f : List ℕ → Option ℕ) (word name : List ℕ) (n : ℕ) → f word ≡ Some n → update bytes_eq f word (Some n) name ≡ f name
known_kept f word name n is =
    ⊎_elim
    (λ (here : bytes_eq word name ≡ true).
    let same : word ≡ name = (bytes_eq-Decides word name).0 here in
    let held : f name ≡ Some n = rw same at is in
    rw (here, held) refl)
    (λ (apart : bytes_eq word name ≡ false). rw apart refl)
    (cases_Bool (bytes_eq word name))

pub labelled_known : (ls : List Label) (l : Label) (n : ℕ) (name : List ℕ) → labelled ls l.name ≡ Some n → labelled (ls ++ l ∷ []) name ≡ labelled ls name
labelled_known ls l n name is =
    let pushed : labelled (ls ++ l ∷ []) name ≡ update bytes_eq (labelled ls) l.name (Some n) name = rw is at (labelled-push ls l name) in
    rw pushed (known_kept (labelled ls) l.name name n is)

pub labelled_new : (ls : List Label) (l : Label) (name : List ℕ) → labelled ls l.name ≡ None → labelled (ls ++ l ∷ []) name ≡ update bytes_eq (labelled ls) l.name (Some l.before) name
labelled_new ls l name is = rw is at (labelled-push ls l name)

-- a map with one label more
known_at : (places : BTreeMap (Bor (List ℕ)) ℕ) (ls : List Label) (l : Label) (o : Option ℕ) → found places l.name ≡ o → is_some o ≡ true → Finds places ls → Finds places (ls ++ l ∷ [])
known_at places ls l None is some f = absurd (cc)
known_at places ls l (Some n) is some f = record { at_name = λ name. f.at_name name ∙ sym (labelled_known ls l n name (sym (f.at_name l.name) ∙ is)) }

pub finds_known : (places : BTreeMap (Bor (List ℕ)) ℕ) (ls : List Label) (l : Label) → is_some (found places l.name) ≡ true → Finds places ls → Finds places (ls ++ l ∷ [])
finds_known places ls l known f = known_at places ls l (found places l.name) refl known f

new_at : (old new : BTreeMap (Bor (List ℕ)) ℕ) (ls : List Label) (l : Label) (o : Option ℕ) → found old l.name ≡ o → is_some o ≡ false
    → ((name : List ℕ) → found new name ≡ update bytes_eq (found old) l.name (Some l.before) name) → Finds old ls → Finds new (ls ++ l ∷ [])
new_at old new ls l (Some n) is none updated f = absurd (cc)
new_at old new ls l None is none updated f = record {
  at_name = λ name.
      let there : found old name ≡ labelled ls name = f.at_name name in
      let more : labelled (ls ++ l ∷ []) name ≡ update bytes_eq (labelled ls) l.name (Some l.before) name = labelled_new ls l name (sym (f.at_name l.name) ∙ is) in
      let here : found new name ≡ update bytes_eq (found old) l.name (Some l.before) name = updated name in
      here ∙ rw (more, there) refl;
}

pub finds_new : (old new : BTreeMap (Bor (List ℕ)) ℕ) (ls : List Label) (l : Label) → is_some (found old l.name) ≡ false
    → ((name : List ℕ) → found new name ≡ update bytes_eq (found old) l.name (Some l.before) name) → Finds old ls → Finds new (ls ++ l ∷ [])
finds_new old new ls l unknown updated f = new_at old new ls l (found old l.name) refl unknown updated f

-- where a label stands
pub place_labelled : (ls : List Label) (end : ℕ) (name : List ℕ) → unwrap_or (labelled ls name) end ≡ place_of ls end name
place_labelled [] end name = refl
place_labelled (l ∷ ls) end name =
    let rest = place_labelled ls end name in
    ⊎_elim
    (λ (here : bytes_eq l.name name ≡ true). rw here refl)
    (λ (other : bytes_eq l.name name ≡ false). rw other rest)
    (cases_Bool (bytes_eq l.name name))

place_found : (places : BTreeMap (Bor (List ℕ)) ℕ) (ls : List Label) (end place : ℕ) (name : List ℕ) → place ≡ unwrap_or (found places name) end → Finds places ls → place ≡ place_of ls end name
place_found places ls end place name is f =
    let there : found places name ≡ labelled ls name = f.at_name name in
    is ∙ rw there (place_labelled ls end name)

-- where an instruction may jump to
label_destination : {I O : Type 0} (labels : List Label) (end : ℕ) (line : Line I O) → destination labels end (jump_label line) ≡ destination_of labels end line
label_destination labels end (Vector op) = refl
label_destination labels end (Controls c) = refl

pub no_destination : {I O : Type 0} (labels : List Label) (end : ℕ) (line : Line I O) → jump_label line ≡ None → end ≡ destination_of labels end line
no_destination labels end line none = rw none at (label_destination labels end line)

pub destination_found : {I O : Type 0} (places : BTreeMap (Bor (List ℕ)) ℕ) (labels : List Label) (end place : ℕ) (label : List ℕ) (line : Line I O) → jump_label line ≡ Some label
    → place ≡ unwrap_or (found places label) end → Finds places labels → place ≡ destination_of labels end line
destination_found places labels end place label line some is f = place_found places labels end place label is f ∙ rw some at (label_destination labels end line)
