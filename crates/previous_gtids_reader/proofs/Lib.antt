-- Laws of the steps, whatever the cursor (`StepLaws`), and what they come to from the start on: the entries that reading the whole body
-- gives, in order, and then the end (`Steps`).
pub mod StepLaws
pub mod Steps
