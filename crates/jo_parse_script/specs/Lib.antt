-- Nothing here has to be believed: the contract of `parse_script` is in words of jo_parse_grammar. `inner` serves:
-- what methods of the parser answer.
pub mod inner
