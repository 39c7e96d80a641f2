-- To be believed: Closing, for what a closed heap leaves. Whoever opens a heap has to believe Opening too. `inner`
-- serves: the words of values, as private functions read them.
pub mod Closing
pub mod Opening
pub mod inner
