use Rattle.std.proofs.Common.{rules}
use Rattle.std.proofs.lemmas.List.Sorted.{answers_always}
use Rattle.dictionary.specs.Rows.{key_of}
use Rattle.dictionary.proofs.Order.{found_in, absent_in}
use Rattle.dictionary.proofs.lookup_in.Goals as goal

pub returns-in-Ok : goal.returns-in-Ok
returns-in-Ok c =
    let by_key = c.in-Ok.ensures.position (λ r. key_of r.key.vendor r.key.code) (answers_always _ _ _ (λ f a r g called. search rules)) in
    found_in _ c.requires _ _ _ c.number.ensures.value _ _ c.in-Ok.ensures.bound by_key

pub returns-in-Err : goal.returns-in-Err
returns-in-Err c =
    let by_key = c.in-Err.ensures.position (λ r. key_of r.key.vendor r.key.code) (answers_always _ _ _ (λ f a r g called. search rules)) in
    absent_in _ c.requires _ _ _ c.number.ensures.value _ by_key
