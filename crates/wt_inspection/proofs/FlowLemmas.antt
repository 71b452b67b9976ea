-- The limits that bytes are.
use Rattle.std.proofs.Common.{◌≡◌, ℕ, List, [], ◌∷◌, Option, Some, None, refl, sym, ap, ◌∙◌}
use Rattle.wt_inspection_model.specs.declared.item.capsule.FlowLimit.{FlowLimit}
use Rattle.wt_inspection_model.specs.declared.item.capsule.FlowLimit.TheVariants.{Session, Stream}
use Rattle.wt_inspection.specs.FlowLimits.{only_limit, only_stream_limit}

-- one integer

pub limit_none : (read : Option (ℕ × List ℕ)) → read ≡ None → None ≡ only_limit read
limit_none read e = rw e refl

pub limit_is : (read : Option (ℕ × List ℕ)) (rest : List ℕ) (limit : ℕ) → read ≡ Some (limit, rest) → rest ≡ [] → Some (Session limit) ≡ only_limit read
limit_is read rest limit e none = rw (e, none) refl

pub limit_more : (read : Option (ℕ × List ℕ)) (rest more : List ℕ) (limit byte : ℕ) → read ≡ Some (limit, rest) → rest ≡ byte ∷ more → None ≡ only_limit read
limit_more read rest more limit byte e some = rw (e, some) refl

-- two integers

pub stream_none : (read : Option ((ℕ × ℕ) × List ℕ)) → read ≡ None → None ≡ only_stream_limit read
stream_none read e = rw e refl

pub stream_is : (read : Option ((ℕ × ℕ) × List ℕ)) (rest : List ℕ) (stream limit : ℕ) → read ≡ Some ((stream, limit), rest) → rest ≡ [] → Some (Stream stream limit) ≡ only_stream_limit read
stream_is read rest stream limit e none = rw (e, none) refl

pub stream_more : (read : Option ((ℕ × ℕ) × List ℕ)) (rest more : List ℕ) (stream limit byte : ℕ) → read ≡ Some ((stream, limit), rest) → rest ≡ byte ∷ more → None ≡ only_stream_limit read
stream_more read rest more stream limit byte e some = rw (e, some) refl
