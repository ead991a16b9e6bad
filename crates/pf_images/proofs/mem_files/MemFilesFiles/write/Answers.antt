use Rattle.std.proofs.Common.{◌≡◌, string_bytes}
use Rattle.std.proofs.lemmas.Map.Text.{btree_map_updates_text}
use Rattle.std.proofs.lemmas.Result.{IfOk-at_ok}
use Rattle.pf_images.proofs.Stores.{puts_from_set}
use Rattle.pf_images.proofs.mem_files.MemFilesFiles.write.Goals as goal

pub returns-clause-written : goal.returns-clause-written
returns-clause-written c =
    let key_is_name = IfOk-at_ok (λ s. string_bytes s ≡ c.args.name.now) c.in_ok-name.was c.from_str.ensures.ok in
    let value_is_bytes = IfOk-at_ok (λ s. s ≡ c.args.bytes.now) c.in_ok-bytes.was c.from_slice.ensures in
    let sets = btree_map_updates_text (string_bytes c.in_ok-name.name) c.args.self.now.held c.insert.new.self _ c.in_ok-insert.ensures.updates in
    puts_from_set _ _ _ _ (rw (key_is_name, value_is_bytes) at sets)
