use Rattle.std.proofs.Common.{◌≡◌, ◌∙◌, sym, true, false, List, ℕ}
use Rattle.std.specs.Prelude.{Some}
use Rattle.std.specs.Map.{update}
use Rattle.std.specs.Option.{is_some}
use Rattle.std.specs.Str.{bytes_eq}
use Rattle.std.proofs.lemmas.Map.Text.{btree_map_updates_str}
use Rattle.pf_machine.specs.Steps.Places.{found}
use Rattle.pf_machine.proofs.PlaceLaws.{finds_known, finds_new}
use Rattle.pf_machine.proofs.machine.add_place.Goals as goal

pub returns-then-contains_key : goal.returns-then-contains_key
returns-then-contains_key c =
    let known : is_some (found c.args.places.now c.args.label.now.name) ≡ true = rw (← c.as_slice-name.ensures.value) (sym c.contains_key.ensures ∙ c.if-contains_key.true) in
    λ ls f. finds_known c.args.places.now ls c.args.label.now known f

pub returns : goal.returns
returns c =
    let unknown : is_some (found c.args.places.now c.args.label.now.name) ≡ false = rw (← c.as_slice-name.ensures.value) (sym c.contains_key.ensures ∙ c.if-contains_key.false) in
    let updated : (name : List ℕ) → found c.insert.new.self name ≡ update bytes_eq (found c.args.places.now) c.args.label.now.name (Some c.args.label.now.before) name =
    λ name. rw (← c.as_slice-name.ensures.value) (btree_map_updates_str c.as_slice-name.result.now c.args.places.now c.insert.new.self _ c.in_ok-insert.ensures.updates name) in
    λ ls f. finds_new c.args.places.now c.insert.new.self ls c.args.label.now unknown updated f
