-- What reading files comes to, and demand 3 over their events, of any way of reading (`Files`); and the caller's loop over chunks (`Loop`).
pub mod Files
pub mod Loop
