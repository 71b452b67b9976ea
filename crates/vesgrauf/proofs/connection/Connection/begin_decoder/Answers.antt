use Rattle.vesgrauf_queue.specs.State.{waiting}
use Rattle.std.specs.Prelude.{◌==◌, if◌then◌else◌}
use Rattle.std.proofs.Common.{rules, ◌≡◌, ◌++◌, ◌∷◌, [], List, ℕ, Bool, true, false, ap, sym, ◌∙◌, append_assoc}
use Rattle.vesgrauf.proofs.connection.Connection.begin_decoder.Goals as goal

begun_by : (b : Bool) (p q t u : List ℕ) → b ≡ false → p ≡ q → u ≡ t ++ (3 ∷ []) → p ++ u ≡ (q ++ t) ++ (if b then [] else 3 ∷ [])
begun_by true p q t u h g k = absurd (let bad : true ≡ false = h in cc)
begun_by false p q t u h g k = ap (λ x. x ++ u) g ∙ (ap (λ x. q ++ x) k ∙ sym (append_assoc q t (3 ∷ [])))

pub returns-clause-instructions : goal.returns-clause-instructions
returns-clause-instructions c =
    let said : c.take_critical-self.new.self.told.items ≡ c.args.self.now.told.items ++ (3 ∷ []) = search (rules) in
    let queued : waiting c.take_critical-self.new.self.decoder.queue ≡ waiting c.args.self.now.decoder.queue = search (rules) in
    let some : (c.args.self.now.config.qpack_max_table_capacity == 0) ≡ false = search (rules) in
    begun_by (c.args.self.now.config.qpack_max_table_capacity == 0) (waiting c.take_critical-self.new.self.decoder.queue)
    (waiting c.args.self.now.decoder.queue) c.args.self.now.told.items c.take_critical-self.new.self.told.items some queued said
