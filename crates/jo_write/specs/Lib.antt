-- To be believed by whoever makes calls: Answers, with Ready and Placing of jo_guard. `inner` serves: what is found
-- of the room in a block.
pub mod Answers
